-- What of a desk is kept beside the applied state, and goes on with it.
use Rattle.std.specs.Prelude.{◌≡◌, Bool, true, false, nat_eq, List}
use Rattle.std.specs.List.{list_any}
use Rattle.rows.specs.declared.node.Node.{Node}
use Rattle.rows.specs.declared.command.Command.{Command}
use Rattle.rows.specs.declared.command.Command.TheVariants as commands
use Rattle.rows.specs.States.{AreTables}
use Rattle.fsm_model.specs.Words.{State}
use Rattle.fsm_model.specs.Effect.{applied}
use Rattle.group_model.specs.Brokers.{Broker, HoldsPending}
use Rattle.group_model.specs.Blocked.{BlockedEvals, blocked_over}
use Rattle.group_model.specs.Expiry.{HeartbeatCount, HoldsHeld}

-- the broker holds the pending evaluations of this state, the blocked ones are its own, and the
-- heartbeats that are counted are those of its nodes that are not down
pub record AreOf (s : State) (broker : Broker) (held : BlockedEvals)
    (counts : List HeartbeatCount) : Type 0 where
  pub pending : HoldsPending s.evals broker.tasks
  pub blocked : held ≡ blocked_over s
  pub nodes_held : HoldsHeld s.nodes counts

-- a command left this state, and these were of the state before it, whose tables were in order
pub record WereOf (c : Command) (after : State) (broker : Broker) (held : BlockedEvals)
    (counts : List HeartbeatCount) : Type 0 where
  pub before : State
  pub tables : AreTables before
  pub left : after ≡ applied before c
  pub of : AreOf before broker held counts

-- the last entry gave some node room
abbrev pub has_just_room : State → Bool
has_just_room s = list_any (λ (n : Node). nat_eq n.room s.count) s.nodes

-- whether a desk is to be told anything of an entry with this command, which left this state: of a
-- plan only that nodes got room
abbrev pub tells_desk : Command → State → Bool
tells_desk commands.Noop s = false
tells_desk (commands.Drain n force) s = false
tells_desk (commands.DrainDone n) s = false
tells_desk (commands.Plan p) s = has_just_room s
tells_desk _ s = true
