-- What a server of the group makes of a call's answer; and that this is what the group's
-- definitions say of it.
use Rattle.std.specs.Prelude.{◌≡◌, ℕ, Option, Some, None, Result, Ok, Err}
use Rattle.rows.specs.declared.evaluation.EvalId.{EvalId}
use Rattle.rows.specs.declared.token.Token.{Token}
use Rattle.rows.specs.declared.token.Delivery.{Delivery}
use Rattle.rows.specs.declared.plan.Plan.{Plan}
use Rattle.rows.specs.declared.command.Command.{Command}
use Rattle.rows.specs.declared.command.Command.TheVariants as commands
use Rattle.rows.specs.declared.command.StatusChange.{StatusChange}
use Rattle.rows.specs.declared.command.StatusChange.TheVariants as changes
use Rattle.rows.specs.declared.refusal.Refusal.{Refusal}
use Rattle.rows.specs.declared.worker.EvalOutcome.{EvalOutcome}
use Rattle.rows.specs.declared.worker.ClientRequestKind.TheVariants as kinds
use Rattle.rows.specs.declared.worker.AskedRequest.TheVariants as asked
use Rattle.rows.specs.declared.worker.WorkerResponse.TheVariants.{Delivered}
use Rattle.rows.specs.Changes.{change_of}
use Rattle.raft_model.specs.Rafts.{Raft}
use Rattle.raft_model.specs.Steps.{admission_refusal}
use Rattle.fsm_model.specs.ClusterMachine.{cluster_spec}
use Rattle.fsm_model.specs.Words.{State}
use Rattle.group_model.specs.Brokers.{deliver, outstanding}
use Rattle.group_model.specs.Blocked.{blocked_over}
use Rattle.group_model.specs.Desks.{Desk, applied_state, projected_state}
use Rattle.group_model.specs.Inputs.{Act, AskPropose, rests, asks}
use Rattle.group_model.specs.Plans.{submitted, after_accept, plan_turn}
use Rattle.group_model.specs.Queues.{first_plan}
use Rattle.group_model.specs.DeskTurns.{lapse, expire, drain_turn, free_turn, reap}
use Rattle.group_model.specs.ClientRequests.{answers, takes_heartbeat}
use Rattle.group_model.specs.WorkerRequests.{responds, refuses, takes_given, submits_of}
use Rattle.group_model.specs.WorkerRequests.{finishes_of, nacks_of}
use Rattle.blocked.specs.Rooms.{blocked_of}
use Rattle.leader.specs.OpenDesks.{OpenDesk, Answered, on_deliver, on_ack, on_nack, on_lapse}
use Rattle.leader.specs.OpenDesks.{on_submit, on_free_turn, on_reap, on_heartbeat, on_expire}
use Rattle.leader.specs.OpenDesks.{on_drain_turn}
use Rattle.leader.specs.Verdicts.{Judged, once_picked}

-- ---- requests of workers, at an open desk

abbrev pub take_act : ℕ → ℕ → OpenDesk → Answered (Option Delivery) → Act
take_act me from o (Err r) = refuses me from asked.Take (Some o.desk) r
take_act me from o (Ok p) = responds me from (Delivered p.0) (Some p.1.desk)

abbrev pub TakesByDeliver : Type 0
TakesByDeliver = (me from wait : ℕ) (o : OpenDesk)
    → takes_given me from o.desk (deliver o.term wait o.desk.broker)
    ≡ take_act me from o (on_deliver wait o)

abbrev pub submit_act : ℕ → ℕ → Plan → OpenDesk → Answered (Unit {0}) → Act
submit_act me from p o (Err r) = refuses me from (asked.Submit p.eval p.token) (Some o.desk) r
submit_act me from p o (Ok q) = rests (Some q.1.desk)

abbrev pub SubmitsBySubmit : Type 0
SubmitsBySubmit = (me from : ℕ) (applied : State) (p : Plan) (o : OpenDesk)
    → submits_of me from p (Some o.desk) (submitted from applied o.desk p)
    ≡ submit_act me from p o (on_submit from applied p o)

abbrev pub nack_act : ℕ → ℕ → EvalId → Token → OpenDesk → Answered (Unit {0}) → Act
nack_act me from id token o (Err r) = refuses me from (asked.Nack id token) (Some o.desk) r
nack_act me from id token o (Ok q) = rests (Some q.1.desk)

abbrev pub NacksByNack : Type 0
NacksByNack = (me from : ℕ) (id : EvalId) (token : Token) (o : OpenDesk)
    → nacks_of me from id token o.desk (outstanding id token o.desk.broker)
    ≡ nack_act me from id token o (on_nack id token o)

-- the command is proposed at the desk as the call leaves it, unless the log refuses it
abbrev pub proposes_at : OpenDesk → Command → (Refusal → Act) → Option Refusal → Act
proposes_at new c refused (Some r) = refused r
proposes_at new c refused None = asks (AskPropose c) (Some new.desk)

-- a refusal goes back at the desk as it was
abbrev pub finish_act : (Refusal → Act) → Raft Command → Command → Answered (Unit {0}) → Act
finish_act refused s c (Err r) = refused r
finish_act refused s c (Ok q) = proposes_at q.1 c refused (admission_refusal cluster_spec s c)

abbrev pub FinishesByAck : Type 0
FinishesByAck = (me from : ℕ) (s : Raft Command) (id : EvalId) (token : Token)
    (outcome : EvalOutcome) (o : OpenDesk) →
    let c = commands.EvalStatus id (change_of outcome) in
    let refused = refuses me from (asked.Finish id token) (Some o.desk) in
    finishes_of me s from id token outcome o.desk (outstanding id token o.desk.broker)
    ≡ finish_act refused s c (on_ack id token o)

-- ---- a client's heartbeat, at an open desk

-- the client is told; refused, the desk is as it was
abbrev pub heartbeat_act : ℕ → ℕ → OpenDesk → Answered (Unit {0}) → Act
heartbeat_act me client o (Err r) = answers me client kinds.Heartbeat (Some r) (Some o.desk)
heartbeat_act me client o (Ok q) = answers me client kinds.Heartbeat None (Some q.1.desk)

abbrev pub HeartbeatsByBeat : Type 0
HeartbeatsByBeat = (me client : ℕ) (d : Option Desk) (o : OpenDesk)
    → takes_heartbeat me client (Ok o.desk) d ≡ heartbeat_act me client o (on_heartbeat client o)

-- ---- turns, at an open desk

abbrev pub lapse_act : Answered (Unit {0}) → Result Act Refusal
lapse_act (Err r) = Err r
lapse_act (Ok q) = Ok (rests (Some q.1.desk))

abbrev pub LapsesByLapse : Type 0
LapsesByLapse = (id : EvalId) (o : OpenDesk) → lapse o.desk id ≡ lapse_act (on_lapse id o)

-- the command is proposed
abbrev pub expire_act : Desk → Result Command Refusal → Result Act Refusal
expire_act d (Err r) = Err r
expire_act d (Ok c) = Ok (asks (AskPropose c) (Some d))

abbrev pub ExpiresByExpire : Type 0
ExpiresByExpire = (s : Raft Command) (node beats : ℕ) (o : OpenDesk)
    → expire s o.desk node beats ≡ expire_act o.desk (on_expire node beats (applied_state s) o)

-- the command, if there is one, is proposed
abbrev pub drain_act : Desk → Result (Option Command) Refusal → Result Act Refusal
drain_act d (Err r) = Err r
drain_act d (Ok None) = Ok (rests (Some d))
drain_act d (Ok (Some c)) = Ok (asks (AskPropose c) (Some d))

abbrev pub DrainsByDrainTurn : Type 0
DrainsByDrainTurn = (s : Raft Command) (node : ℕ) (o : OpenDesk)
    → drain_turn s o.desk node ≡ drain_act o.desk (on_drain_turn node (projected_state s) o)

-- what is kept is proposed, unless the log refuses it; and the sender is told
abbrev pub judged_act : ℕ → Raft Command → Desk → Option Judged → Act
judged_act me s d None = rests (Some d)
judged_act me s d (Some j) = after_accept me s d j.queued j.kept

abbrev pub PlanTurnsByVerdict : Type 0
PlanTurnsByVerdict = (me : ℕ) (s : Raft Command) (o : OpenDesk) →
    let turn = once_picked (projected_state s) o (first_plan o.desk.plans) in
    plan_turn me s o.desk ≡ judged_act me s turn.1.desk turn.0

-- the evaluation, if there is one, is proposed with this status
abbrev pub status_act : StatusChange → Desk → Result (Option EvalId) Refusal → Result Act Refusal
status_act change d (Err r) = Err r
status_act change d (Ok None) = Ok (rests (Some d))
status_act change d (Ok (Some id)) = Ok (asks (AskPropose (commands.EvalStatus id change)) (Some d))

abbrev pub FreesByFreeTurn : Type 0
FreesByFreeTurn = (s : Raft Command) (o : OpenDesk)
    → blocked_of o.blocked ≡ blocked_over (applied_state s)
    → status_act changes.Pending o.desk (on_free_turn (projected_state s) o) ≡ Ok (free_turn s o.desk)

abbrev pub ReapsByReap : Type 0
ReapsByReap = (s : Raft Command) (o : OpenDesk)
    → status_act changes.Failed o.desk (on_reap (projected_state s) o) ≡ Ok (reap s o.desk)
