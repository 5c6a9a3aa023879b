-- What a rule does to a server and to its frames.
use Rattle.std.specs.Prelude.{◌≡◌, List, length, take}
use Rattle.machine_model.specs.MachineSpec.{MachineSpec}
use Rattle.raft_model.specs.Rafts.{RaftTurn, crashed}
use Rattle.wire.specs.Frames.{Frame}
use Rattle.raft_snapshot.specs.Bases.{Base}
use Rattle.raft_core.specs.RaftView.{RaftView}
use Rattle.raft_core.specs.Frames.{Sends}

-- the same place, and the same snapshot
abbrev pub SameBase : {S C : Type 0} → RaftView S C → RaftView S C → Type 0
SameBase old new = (new.me ≡ old.me) × (new.size ≡ old.size) × (new.base ≡ old.base)

-- the turn was taken, its messages sent; this is the base that it leaves
pub record TurnTaken {S C : Type 0} (m : MachineSpec S C) (left : Base S) (old new : RaftView S C) (before after : List Frame) (turn : RaftTurn C) : Type 0 where
  pub server : new.server ≡ turn.server
  pub base : new.base ≡ left
  pub me : new.me ≡ old.me
  pub size : new.size ≡ old.size
  pub sent : Sends m before after turn.sent

-- what was sent before still stands in front
abbrev pub KeepsFront : List Frame → List Frame → Type 0
KeepsFront before after = take (length before) after ≡ before

-- memory was wanting: what is stored is as it was, and nothing of what was sent before is lost
pub record OutOfMemoryTurn {S C : Type 0} (old new : RaftView S C) (before after : List Frame) : Type 0 where
  pub server : crashed new.server ≡ crashed old.server
  pub base : new.base ≡ old.base
  pub me : new.me ≡ old.me
  pub size : new.size ≡ old.size
  pub front : KeepsFront before after
