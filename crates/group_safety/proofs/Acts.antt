-- What no act but a plan turn does: it proposes no plan. And no act shows a client what the server
-- has not applied.
use Rattle.std.proofs.Common.{◌≡◌, ℕ, Bool, true, false, cond, not, Option, Some, None, Result, Ok, Err, List, [], ◌∷◌, length, refl}
use Rattle.std.specs.List.{AllByRecursion}
use Rattle.rows.specs.declared.node.Node.{Node}
use Rattle.rows.specs.declared.evaluation.EvalId.{EvalId}
use Rattle.rows.specs.declared.evaluation.Evaluation.{Evaluation}
use Rattle.rows.specs.declared.token.Token.{Token}
use Rattle.rows.specs.declared.allocation.AllocId.{AllocId}
use Rattle.rows.specs.declared.plan.Plan.{Plan}
use Rattle.rows.specs.declared.command.AcceptedPlan.{AcceptedPlan}
use Rattle.rows.specs.declared.command.Command.{Command}
use Rattle.rows.specs.declared.command.Command.TheVariants as commands
use Rattle.rows.specs.declared.refusal.Refusal.{Refusal}
use Rattle.rows.specs.declared.refusal.Refusal.TheVariants as refusals
use Rattle.raft_model.specs.Rafts.{Raft, is_leader}
use Rattle.raft_model.specs.Steps.{admission_refusal}
use Rattle.fsm_model.specs.Words.{State}
use Rattle.fsm_model.specs.Words.{node_of}
use Rattle.fsm_model.specs.ClusterMachine.{cluster_spec}
use Rattle.rows.specs.declared.worker.EvalOutcome.{EvalOutcome}
use Rattle.rows.specs.declared.worker.WorkerRequest.{WorkerRequest}
use Rattle.rows.specs.declared.worker.WorkerRequest.TheVariants.{Take, Submit, Finish, Nack}
use Rattle.rows.specs.declared.worker.ClientRequestKind.{ClientRequestKind}
use Rattle.rows.specs.declared.worker.ClientRequestKind.TheVariants as kinds
use Rattle.rows.specs.Changes.{change_of}
use Rattle.group_model.specs.Messages.{ServiceMessage, BetweenServers, ToServer, ToClient, WorkerMessage, Asks, Answers, ClientRequest, Register, Heartbeat, Pull, ReportStates, Listing, Told}
use Rattle.group_model.specs.Order.{Picked, pick}
use Rattle.group_model.specs.Brokers.{Task, Given, Nothing, UsedUp, Gives, deliver, outstanding}
use Rattle.group_model.specs.Expiry.{HeartbeatCount, heartbeat_count_of}
use Rattle.group_model.specs.Acceptance.{Accepted, accept, keeps_some}
use Rattle.group_model.specs.Drains.{is_done, next_moves_of}
use Rattle.group_model.specs.Desks.{Desk, QueuedPlan, applied_state, projected_state}
use Rattle.group_model.specs.Inputs.{Act, Ask, AskPropose}
use Rattle.group_model.specs.Plans.{plan_command, plan_turn, turn_of, judged, after_accept, proposes_plan, submitted}
use Rattle.group_model.specs.DeskTurns.{lapse, expiry_command, expire_of, expire, migrates, drains_by, drain_turn_of, drain_turn, free_turn_of, free_turn, reap_of, reap}
use Rattle.group_model.specs.WorkerRequests.{takes_given, submits_of, finishes_by, finishes_of, nacks_of, serves_request, serves_worker}
use Rattle.group_model.specs.ClientRequests.{is_registered, is_taken_already, proposes_for, writes, heartbeats_at, serves_client, listed}

-- a plan is proposed
abbrev pub AsksPlan : Option Ask → AcceptedPlan → Type 0
AsksPlan o p = o ≡ Some (AskPropose (commands.Plan p))

-- it is sent in the server's own name, and a client is shown what the server has applied
abbrev pub Honest : ℕ → Raft Command → ServiceMessage → Type 0
Honest me s (BetweenServers from to message) = from ≡ me
Honest me s (ToServer client server request) = Unit {0}
Honest me s (ToClient server client (Listing index rows)) = (server ≡ me) × (index ≡ s.commit) × (rows ≡ listed client (applied_state s))
Honest me s (ToClient server client (Told kind refused)) = server ≡ me

-- an act that proposes no plan and is honest
pub record Sober (me : ℕ) (s : Raft Command) (act : Act) : Type 0 where
  pub no_plan : (p : AcceptedPlan) → AsksPlan act.ask p → ⊥
  pub honest : AllByRecursion (Honest me s) act.sent

-- the same of a result: a refusal does nothing
abbrev pub SoberResult : ℕ → Raft Command → Result Act Refusal → Type 0
SoberResult me s (Err r) = Unit {0}
SoberResult me s (Ok act) = Sober me s act

module _ (me : ℕ) (s : Raft Command) where
  -- ---- requests of workers

  sober_given : (from : ℕ) (o : Desk) (g : Given) → Sober me s (takes_given me from o g)
  sober_given from o Nothing = record { no_plan = λ p h. cc; honest = (refl, tt) }
  sober_given from o UsedUp = record { no_plan = λ p h. cc; honest = (refl, tt) }
  sober_given from o (Gives what broker) = record { no_plan = λ p h. cc; honest = (refl, tt) }

  sober_submit : (from : ℕ) (q : Plan) (d : Option Desk) (r : Result Desk Refusal) → Sober me s (submits_of me from q d r)
  sober_submit from q d (Err e) = record { no_plan = λ p h. cc; honest = (refl, tt) }
  sober_submit from q d (Ok o) = record { no_plan = λ p h. cc; honest = tt }

  sober_finish_by : (from : ℕ) (id : EvalId) (token : Token) (f : EvalOutcome) (o : Desk) (r : Option Refusal) → Sober me s (finishes_by me from id token (commands.EvalStatus id (change_of f)) o r)
  sober_finish_by from id token f o (Some e) = record { no_plan = λ p h. cc; honest = (refl, tt) }
  sober_finish_by from id token f o None = record { no_plan = λ p h. cc; honest = tt }

  sober_finish : (from : ℕ) (id : EvalId) (token : Token) (f : EvalOutcome) (o : Desk) (r : Result ℕ Refusal) → Sober me s (finishes_of me s from id token f o r)
  sober_finish from id token f o (Err e) = record { no_plan = λ p h. cc; honest = (refl, tt) }
  sober_finish from id token f o (Ok wait) = sober_finish_by from id token f o (admission_refusal cluster_spec s (commands.EvalStatus id (change_of f)))

  sober_nack : (from : ℕ) (id : EvalId) (token : Token) (o : Desk) (r : Result ℕ Refusal) → Sober me s (nacks_of me from id token o r)
  sober_nack from id token o (Err e) = record { no_plan = λ p h. cc; honest = (refl, tt) }
  sober_nack from id token o (Ok wait) = record { no_plan = λ p h. cc; honest = tt }

  sober_request : (from : ℕ) (r : Result Desk Refusal) (d : Option Desk) (request : WorkerRequest) → Sober me s (serves_request me s from r d request)
  sober_request from (Err e) d Take = record { no_plan = λ p h. cc; honest = (refl, tt) }
  sober_request from (Ok o) d Take = sober_given from o (deliver s.term (length s.log) o.broker)
  sober_request from (Err e) d (Submit q) = record { no_plan = λ p h. cc; honest = (refl, tt) }
  sober_request from (Ok o) d (Submit q) = sober_submit from q d (submitted from (applied_state s) o q)
  sober_request from (Err e) d (Finish eval token f) = record { no_plan = λ p h. cc; honest = (refl, tt) }
  sober_request from (Ok o) d (Finish eval token f) = sober_finish from eval token f o (outstanding eval token o.broker)
  sober_request from (Err e) d (Nack eval token) = record { no_plan = λ p h. cc; honest = (refl, tt) }
  sober_request from (Ok o) d (Nack eval token) = sober_nack from eval token o (outstanding eval token o.broker)

  pub sober_worker : (from : ℕ) (r : Result Desk Refusal) (d : Option Desk) (message : WorkerMessage) → Sober me s (serves_worker me s from r d message)
  sober_worker from r d (Asks request) = sober_request from r d request
  sober_worker from r d (Answers response) = record { no_plan = λ p h. cc; honest = tt }

  -- ---- requests of clients

  -- one of two
  sober_cond : (b : Bool) (x y : Act) → Sober me s x → Sober me s y → Sober me s (cond b x y)
  sober_cond true x y a b = a
  sober_cond false x y a b = b

  module _ (c : ℕ) (kind : ClientRequestKind) (command : Command) (other : (p : AcceptedPlan) → command ≡ commands.Plan p → ⊥) where
    sober_proposes : (d : Option Desk) (r : Option Refusal) → Sober me s (proposes_for me c kind command d r)
    sober_proposes d (Some e) = record { no_plan = λ p h. cc; honest = (refl, tt) }
    sober_proposes d None = record { no_plan = λ p h. other p (cc); honest = (refl, tt) }

    sober_writes : (d : Option Desk) → Sober me s (writes me s c kind command d)
    sober_writes d =
        sober_cond (not (is_leader s.mode)) _ _ (record { no_plan = λ p h. cc; honest = (refl, tt) })
        (sober_cond (is_taken_already (projected_state s) command) _ _ (record { no_plan = λ p h. cc; honest = (refl, tt) }) (sober_proposes d (admission_refusal cluster_spec s command)))

  sober_beats : (c : ℕ) (o : Desk) (p : Option HeartbeatCount) → Sober me s (heartbeats_at me c o p)
  sober_beats c o None = record { no_plan = λ p h. cc; honest = (refl, tt) }
  sober_beats c o (Some p) = record { no_plan = λ p h. cc; honest = (refl, tt) }

  pub sober_client : (c : ℕ) (r : Result Desk Refusal) (d : Option Desk) (request : ClientRequest) → Sober me s (serves_client me s c r d request)
  sober_client c r d (Register class size) = sober_writes c kinds.Register (commands.NodePut (record { number = c; class = class; size = size })) (λ p h. cc) d
  sober_client c (Err e) d Heartbeat = record { no_plan = λ p h. cc; honest = (refl, tt) }
  sober_client c (Ok o) d Heartbeat = sober_beats c o (heartbeat_count_of c o.heartbeat_counts)
  sober_client c r d Pull = record { no_plan = λ p h. cc; honest = ((refl, refl, refl), tt) }
  sober_client c r d (ReportStates items) = sober_writes c kinds.Report (commands.Report c items) (λ p h. cc) d

  -- ---- turns but that of plans

  sober_result : (b : Bool) (x y : Result Act Refusal) → SoberResult me s x → SoberResult me s y → SoberResult me s (cond b x y)
  sober_result true x y a b = a
  sober_result false x y a b = b

  pub sober_lapses : (d : Desk) (id : EvalId) → SoberResult me s (lapse d id)
  sober_lapses d id = sober_result _ (Ok _) (Err refusals.NotOutstanding) (record { no_plan = λ p h. cc; honest = tt }) tt

  sober_expires_of : (d : Desk) (command : Command) → ((p : AcceptedPlan) → command ≡ commands.Plan p → ⊥) → (beats : ℕ) (p : Option HeartbeatCount) → SoberResult me s (expire_of d command beats p)
  sober_expires_of d command other beats None = tt
  sober_expires_of d command other beats (Some q) = sober_result _ (Ok _) (Err refusals.StaleExpiry) (record { no_plan = λ p h. other p (cc); honest = tt }) tt

  expires_no_plan : (b : Bool) (n : ℕ) (p : AcceptedPlan) → cond b (commands.Disconnect n) (commands.NodeDown n) ≡ commands.Plan p → ⊥
  expires_no_plan true n p h = cc
  expires_no_plan false n p h = cc

  pub sober_expires : (d : Desk) (n beats : ℕ) → SoberResult me s (expire s d n beats)
  sober_expires d n beats = sober_expires_of d (expiry_command (applied_state s) n) (expires_no_plan (is_registered n (applied_state s)) n) beats (heartbeat_count_of n d.heartbeat_counts)

  sober_moves : (d : Desk) (ids : List AllocId) → Sober me s (migrates d ids)
  sober_moves d [] = record { no_plan = λ p h. cc; honest = tt }
  sober_moves d (id ∷ ids) = record { no_plan = λ p h. cc; honest = tt }

  sober_drains_by : (d : Desk) (w : State) (n : Node) (r : Result (List AllocId) Refusal) → SoberResult me s (drains_by d w n r)
  sober_drains_by d w n (Err e) = tt
  sober_drains_by d w n (Ok ids) = sober_result (is_done n.number w) (Ok _) (Ok _) (record { no_plan = λ p h. cc; honest = tt }) (sober_moves d ids)

  sober_drains_of : (d : Desk) (w : State) (n : Option Node) → SoberResult me s (drain_turn_of d w n)
  sober_drains_of d w None = tt
  sober_drains_of d w (Some n) = sober_drains_by d w n (next_moves_of w (Some n))

  pub sober_drains : (d : Desk) (n : ℕ) → SoberResult me s (drain_turn s d n)
  sober_drains d n = sober_drains_of d (projected_state s) (node_of n (projected_state s))

  sober_frees_of : (d : Desk) (e : Option Evaluation) → Sober me s (free_turn_of d e)
  sober_frees_of d None = record { no_plan = λ p h. cc; honest = tt }
  sober_frees_of d (Some e) = record { no_plan = λ p h. cc; honest = tt }

  pub sober_frees : (d : Desk) → Sober me s (free_turn s d)
  sober_frees d = sober_frees_of d _

  sober_reaps_of : (d : Desk) (t : Option Task) → Sober me s (reap_of d t)
  sober_reaps_of d None = record { no_plan = λ p h. cc; honest = tt }
  sober_reaps_of d (Some t) = record { no_plan = λ p h. cc; honest = tt }

  pub sober_reaps : (d : Desk) → Sober me s (reap s d)
  sober_reaps d = sober_reaps_of d _

  -- ---- the plan turn: it is honest

  honest_proposes : (d : Desk) (w : QueuedPlan) (a : Accepted) (r : Option Refusal) → AllByRecursion (Honest me s) (proposes_plan me s d w a r).sent
  honest_proposes d w a (Some e) = (refl, tt)
  honest_proposes d w a None = (refl, tt)

  honest_cond : (b : Bool) (x y : Act) → AllByRecursion (Honest me s) x.sent → AllByRecursion (Honest me s) y.sent → AllByRecursion (Honest me s) (cond b x y).sent
  honest_cond true x y a b = a
  honest_cond false x y a b = b

  honest_accept : (d : Desk) (w : QueuedPlan) (r : Result Accepted Refusal) → AllByRecursion (Honest me s) (after_accept me s d w r).sent
  honest_accept d w (Err e) = (refl, tt)
  honest_accept d w (Ok a) = honest_cond (keeps_some a) _ _ (honest_proposes d w a (admission_refusal cluster_spec s (plan_command w.plan a))) (refl, tt)

  honest_judged : (d : Desk) (w : QueuedPlan) (r : Result ℕ Refusal) → AllByRecursion (Honest me s) (judged me s d w r).sent
  honest_judged d w (Err e) = (refl, tt)
  honest_judged d w (Ok wait) = honest_accept d w (accept (projected_state s) w.plan wait)

  honest_turn : (d : Desk) (p : Option (Picked QueuedPlan)) → AllByRecursion (Honest me s) (turn_of me s d p).sent
  honest_turn d None = tt
  honest_turn d (Some p) = honest_judged (record d { plans = p.others }) p.one (outstanding p.one.plan.eval p.one.plan.token d.broker)

  pub honest_plan_turn : (d : Desk) → AllByRecursion (Honest me s) (plan_turn me s d).sent
  honest_plan_turn d = honest_turn d (pick (λ (w : QueuedPlan). w.priority) d.plans)
