-- Which server a value is, and what it does with what is handed in.
use Rattle.std.specs.Prelude.{◌≡◌, ℕ, ◌<◌, Option, Some, None, Ok, List}
use Rattle.rows.specs.GroupSizes.{IsGroup}
use Rattle.machine_model.specs.MachineSpec.{MachineSpec}
use Rattle.wire.specs.Messages.{Message as WireMessage}
use Rattle.wire.specs.Frames.{Frame}
use Rattle.raft_model.specs.Rafts.{Raft, RaftTurn, Mode}
use Rattle.raft_model.specs.Rafts.{Down as DownMode, Follower as FollowerMode, Candidate as CandidateMode, Leader as LeaderMode}
use Rattle.raft_model.specs.Messages.{Message}
use Rattle.raft_model.specs.Steps.{Input, Arrives, step}
use Rattle.raft_core.specs.declared.role.Role.{Role}
use Rattle.raft_core.specs.declared.role.Role.TheVariants as roles
use Rattle.raft_snapshot.specs.Kept.{IsLogOf}
use Rattle.raft_snapshot.specs.Compacted.{IsCompactionOf}
use Rattle.raft_snapshot.specs.Stored.{Stored}
use Rattle.raft_core.specs.RaftView.{RaftView}
use Rattle.raft_core.specs.Frames.{Means, Sends}
use Rattle.raft_core.specs.Inputs.{Handed, Reads}

-- Which servers of the definitions a value is: each that has, in place of the blank entries, some
-- that its snapshot covers.
abbrev pub RefinesRaft : {S C : Type 0} → MachineSpec S C → RaftView S C → Raft C → Type 0
RefinesRaft m view s = IsCompactionOf m view.base view.server s

-- what is stored is what this server stores
pub record Stores {S C : Type 0} (m : MachineSpec S C) (stored : Stored S C) (s : Raft C) : Type 0 where
  pub term : stored.term ≡ s.term
  pub vote : stored.vote ≡ s.vote
  pub log : IsLogOf m stored.log s.log
  pub covered : stored.log.base.index ≡ s.covered

abbrev pub role_of : Mode → Option Role
role_of DownMode = None
role_of FollowerMode = Some roles.Follower
role_of (CandidateMode votes) = Some roles.Candidate
role_of (LeaderMode next match) = Some roles.Leader

-- a group has so many servers, and one of this number
abbrev pub IsGroupMember : ℕ → ℕ → Type 0
IsGroupMember n me = IsGroup n × (me < n)

-- the input leads from the one server to one that the new value is, and its messages were sent
pub record Steps {S C : Type 0} (m : MachineSpec S C) (old : RaftView S C) (s : Raft C) (input : Input C)
    (new : RaftView S C) (before after : List Frame) : Type 0 where
  pub turn : RaftTurn C
  pub step : step m old.size old.me s input ≡ Ok turn
  pub refines : RefinesRaft m new turn.server
  pub sent : Sends m before after turn.sent

-- so for each input that what is handed in may be
abbrev pub Takes : {S C : Type 0} → MachineSpec S C → RaftView S C → Raft C → Handed C → RaftView S C
    → List Frame → List Frame → Type 0
Takes {C = C} m old s h new before after =
    (input : Input C) → Reads m h input → Steps m old s input new before after

-- and so for the arrival of each message that the one that was read is
abbrev pub TakesMessage : {S C : Type 0} → MachineSpec S C → RaftView S C → Raft C → WireMessage S C
    → RaftView S C → List Frame → List Frame → Type 0
TakesMessage {C = C} m old s read new before after =
    (message : Message C) → Means m read message → Steps m old s (Arrives message) new before after
