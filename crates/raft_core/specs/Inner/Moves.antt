-- What an input does to what is shown, whichever servers that stands for.
use Rattle.std.specs.Prelude.{◌≡◌, ℕ, ◌≤◌, Bool, true, false, Some, Ok, List, length}
use Rattle.rows.specs.declared.actor.Actor.TheVariants.{Server}
use Rattle.machine_model.specs.MachineSpec.{MachineSpec}
use Rattle.machine_model.specs.declared.entry.Entry.{Entry}
use Rattle.wire.specs.Messages.{Message as WireMessage}
use Rattle.wire.specs.Frames.{Frame, MessageFits, message_text}
use Rattle.wire.specs.declared.body.Body.{Body}
use Rattle.wire.specs.declared.body.Body.TheVariants as bodies
use Rattle.raft_model.specs.Messages.{Message}
use Rattle.raft_model.specs.Rafts.{RaftTurn, is_up, beats}
use Rattle.raft_model.specs.Steps.{Input, Arrives, Beat, Compact, step}
use Rattle.raft_snapshot.specs.Bases.{Base, IsBaseOf}
use Rattle.raft_snapshot.specs.Prefixes.{with_prefix}
use Rattle.raft_snapshot.specs.Compacted.{base_after, compacted_base, compacted_further}
use Rattle.raft_core.specs.RaftView.{RaftView}
use Rattle.raft_core.specs.Frames.{Sends, base_of, log_message}
use Rattle.raft_core.specs.Inputs.{Handed, Bytes, Own}
use Rattle.raft_core.specs.Inner.Turns.{TurnTaken}

-- the shown server takes the input, and this is the base that it leaves
pub record Moves {S C : Type 0} (m : MachineSpec S C) (left : Base S) (old : RaftView S C) (input : Input C)
    (new : RaftView S C) (before after : List Frame) : Type 0 where
  pub turn : RaftTurn C
  pub step : step m old.size old.me old.server input ≡ Ok turn
  pub taken : TurnTaken m left old new before after turn

-- the message that the one that was read shows: of the entries that an Install covers, blank ones
pub record Shows {S C : Type 0} (m : MachineSpec S C) (read : WireMessage S C) (message : Message C) : Type 0 where
  pub from : read.from ≡ Server message.from
  pub to : read.to ≡ Server message.to
  pub said : log_message m message.from message.to read.body ≡ Some message

-- the body is that of an Install, whose frame carries more than it shows
abbrev pub is_install : {S C : Type 0} → Body S C → Bool
is_install (bodies.Install _) = true
is_install _ = false

-- the base that a body leaves: that of an Install, where it is taken over
abbrev pub base_left : {S C : Type 0} → RaftView S C → Body S C → Base S
base_left old (bodies.Install i) = base_after old.base old.server i.head.term (base_of i)
base_left old _ = old.base

-- the arrival of each message that the one that was read shows
abbrev pub MovesMessage : {S C : Type 0} → MachineSpec S C → RaftView S C → WireMessage S C → RaftView S C
    → List Frame → List Frame → Type 0
MovesMessage {C = C} m old read new before after =
    (message : Message C) → Shows m read message → Moves m (base_left old read.body) old (Arrives message) new before after

-- so for each message whose text the bytes are
abbrev pub MovesFrame : {S C : Type 0} → MachineSpec S C → RaftView S C → List ℕ → RaftView S C
    → List Frame → List Frame → Type 0
MovesFrame {S = S} {C = C} m old bytes new before after =
    (read : WireMessage S C) → MessageFits m read → bytes ≡ message_text m read →
    MovesMessage m old read new before after

-- A beat of a server that is up sends what that owes, for each list that its snapshot may cover.
pub record Beats {S C : Type 0} (m : MachineSpec S C) (view : RaftView S C) (before after : List Frame) : Type 0 where
  pub up : is_up view.server.mode ≡ true
  pub sent : (covered : List (Entry C)) → IsBaseOf m view.base covered →
      Sends m before after (beats view.size view.me (with_prefix covered view.server) view.server.mode)

-- A Compact of a server that is up covers all that is applied.
pub record Compacts {S C : Type 0} (m : MachineSpec S C) (old new : RaftView S C) : Type 0 where
  pub up : is_up old.server.mode ≡ true
  pub within : old.server.commit ≤ length old.server.log
  pub base : new.base ≡ compacted_base m old.base old.server
  pub server : new.server ≡ compacted_further m old.server

-- what is handed in, bytes or an input of the server's own
abbrev pub MovesBy : {S C : Type 0} → MachineSpec S C → RaftView S C → Handed C → RaftView S C
    → List Frame → List Frame → Type 0
MovesBy m old (Bytes bytes) new before after = MovesFrame m old bytes new before after
MovesBy m old (Own Beat) new before after = (new ≡ old) × Beats m old before after
MovesBy m old (Own Compact) new before after = (after ≡ before) × Compacts m old new
MovesBy m old (Own input) new before after = Moves m old.base old input new before after

-- the bytes are the frame of a message that was read, and this is what that shows
pub record WasRead {S C : Type 0} (m : MachineSpec S C) (bytes : List ℕ) : Type 0 where
  pub read : WireMessage S C
  pub fits : MessageFits m read
  pub text : bytes ≡ message_text m read
  pub message : Message C
  pub shows : Shows m read message

-- what is handed in was read, if it is bytes
abbrev pub IsReadIn : {S C : Type 0} → MachineSpec S C → Handed C → Type 0
IsReadIn m (Bytes bytes) = WasRead m bytes
IsReadIn m (Own input) = Unit {0}
