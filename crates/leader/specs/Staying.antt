-- An open desk is of a state, and its calls leave it of that state.
use Rattle.std.specs.Prelude.{◌≡◌, ℕ, Option, Some, None, Ok}
use Rattle.rows.specs.declared.evaluation.EvalId.{EvalId}
use Rattle.rows.specs.declared.token.Token.{Token}
use Rattle.rows.specs.declared.plan.Plan.{Plan}
use Rattle.rows.specs.declared.command.Command.{Command}
use Rattle.fsm_model.specs.Words.{State}
use Rattle.group_model.specs.Desks.{follow_state}
use Rattle.blocked.specs.Rooms.{blocked_of}
use Rattle.leader.specs.Following.{AreOf, WereOf}
use Rattle.leader.specs.OpenDesks.{OpenDesk, Answered, IsOpened, on_deliver, on_ack, on_nack}
use Rattle.leader.specs.OpenDesks.{on_lapse, on_submit, on_heartbeat}
use Rattle.leader.specs.Verdicts.{on_plan_turn}

-- it has the pending evaluations of the state, the blocked ones, and the nodes that are not down
abbrev pub IsOver : State → OpenDesk → Type 0
IsOver s o = AreOf s o.desk.broker (blocked_of o.blocked) o.desk.heartbeat_counts

-- A command left this state: the desk was of the state before it, and now follows it.
abbrev pub WasOver : Command → State → OpenDesk → Type 0
WasOver c s o = WereOf c s o.desk.broker (blocked_of o.blocked) o.desk.heartbeat_counts

pub record HasFollowed (s : State) (old new : OpenDesk) : Type 0 where
  pub desk : new.desk ≡ follow_state s old.desk
  pub over : IsOver s new

pub record Follows (c : Command) (s : State) (old new : OpenDesk) : Type 0 where
  pub term : new.term ≡ old.term
  pub plans : new.desk.plans ≡ old.desk.plans
  pub desk : WasOver c s old → HasFollowed s old new

-- an open desk stays open, and a closed one closed
abbrev pub FollowsIfOpen : Command → State → Option OpenDesk → Option OpenDesk → Type 0
FollowsIfOpen c s None new = new ≡ None
FollowsIfOpen c s (Some old) None = ⊥
FollowsIfOpen c s (Some old) (Some new) = Follows c s old new

-- one that opens is of its state
abbrev pub OpensOver : Type 0
OpensOver = (s : State) (term : ℕ) (o : OpenDesk) → IsOpened s term o → IsOver s o

-- and what a call answers and leaves, where it is not refused, is of it too
abbrev pub LeavesOver : {A : Type 0} → State → (OpenDesk → Answered A) → OpenDesk → Type 0
LeavesOver {A} s call o = (a : A) (new : OpenDesk)
    → IsOver s o → call o ≡ Ok (a, new) → IsOver s new

abbrev pub DeliverStays : Type 0
DeliverStays = (s : State) (wait : ℕ) (o : OpenDesk) → LeavesOver s (on_deliver wait) o

abbrev pub AckStays : Type 0
AckStays = (s : State) (id : EvalId) (token : Token) (o : OpenDesk)
    → LeavesOver s (on_ack id token) o

abbrev pub NackStays : Type 0
NackStays = (s : State) (id : EvalId) (token : Token) (o : OpenDesk)
    → LeavesOver s (on_nack id token) o

abbrev pub LapseStays : Type 0
LapseStays = (s : State) (id : EvalId) (o : OpenDesk) → LeavesOver s (on_lapse id) o

abbrev pub SubmitStays : Type 0
SubmitStays = (s applied : State) (from : ℕ) (p : Plan) (o : OpenDesk)
    → LeavesOver s (on_submit from applied p) o

abbrev pub PlanTurnStays : Type 0
PlanTurnStays = (s projected : State) (o : OpenDesk) → LeavesOver s (on_plan_turn projected) o

abbrev pub HeartbeatStays : Type 0
HeartbeatStays = (s : State) (node : ℕ) (o : OpenDesk) → LeavesOver s (on_heartbeat node) o
