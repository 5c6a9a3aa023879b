-- No item but its crash takes a server down: what it asks of its log is no crash, and the log's
-- server stays up.
use Rattle.std.specs.Bool.{⊤}
use Rattle.std.proofs.Common.{◌≡◌, ℕ, ◌&&◌, ◌==◌, inl, inr, Bool, true, false, cond, not, nat_lt, nat_le, if◌then◌else◌, length, Option, Some, None, Result, Ok, Err, List, [], ◌∷◌, refl, subst, slice_set}
use Rattle.rows.specs.declared.node.Node.{Node}
use Rattle.rows.specs.declared.evaluation.EvalId.{EvalId}
use Rattle.rows.specs.declared.evaluation.Evaluation.{Evaluation}
use Rattle.rows.specs.declared.token.Token.{Token}
use Rattle.rows.specs.declared.allocation.AllocId.{AllocId}
use Rattle.rows.specs.declared.plan.Plan.{Plan}
use Rattle.rows.specs.declared.command.Command.{Command}
use Rattle.rows.specs.declared.command.Command.TheVariants as commands
use Rattle.rows.specs.declared.refusal.Refusal.{Refusal}
use Rattle.rows.specs.declared.refusal.Refusal.TheVariants as refusals
use Rattle.rows.specs.declared.worker.EvalOutcome.{EvalOutcome}
use Rattle.rows.specs.declared.worker.WorkerRequest.{WorkerRequest}
use Rattle.rows.specs.declared.worker.WorkerRequest.TheVariants.{Take, Submit, Finish, Nack}
use Rattle.rows.specs.declared.worker.ClientRequestKind.{ClientRequestKind}
use Rattle.rows.specs.declared.worker.ClientRequestKind.TheVariants as kinds
use Rattle.rows.specs.Changes.{change_of}
use Rattle.machine_model.specs.MachineSpec.{MachineSpec}
use Rattle.raft_model.specs.Logs.{MAX}
use Rattle.raft_model.specs.Quorums.{is_quorum, marked}
use Rattle.raft_model.specs.Messages.{Body, VoteRequest, VoteReply, Append, AppendReply, Install, InstallReply}
use Rattle.raft_model.specs.Rafts.{Raft, RaftTurn, Mode, Down, Follower, Candidate, Leader, is_up, is_leader, silent, term_observed, grants, granted, won, with_votes, counted, following, is_held, match_raised, advanced_in, after_append_ok, after_append_refusal, extended}
use Rattle.raft_model.specs.Steps as raft_steps
use Rattle.raft_model.specs.Steps.{admission_refusal}
use Rattle.raft_model.proofs.Cases.{bool_cases, same_ok}
use Rattle.fsm_model.specs.Words.{State}
use Rattle.fsm_model.specs.Words.{node_of}
use Rattle.fsm_model.specs.ClusterMachine.{cluster_spec}
use Rattle.group_model.specs.Messages.{GroupMessage, ServiceMessage, BetweenServers, ToServer, ToClient, WorkerMessage, Asks, Answers, ClientRequest, Register, Heartbeat, Pull, ReportStates}
use Rattle.group_model.specs.Order.{Picked, pick}
use Rattle.group_model.specs.Brokers.{Task, Given, Nothing, UsedUp, Gives, deliver, outstanding}
use Rattle.group_model.specs.Expiry.{HeartbeatCount, heartbeat_count_of}
use Rattle.group_model.specs.Acceptance.{Accepted, accept, keeps_some}
use Rattle.group_model.specs.Drains.{is_done, next_moves_of}
use Rattle.group_model.specs.Desks.{Desk, QueuedPlan, applied_state, projected_state}
use Rattle.group_model.specs.Inputs as inputs
use Rattle.group_model.specs.Inputs.{Act, Ask}
use Rattle.group_model.specs.Plans.{plan_command, turn_of, judged, after_accept, proposes_plan, submitted}
use Rattle.group_model.specs.DeskTurns.{expiry_command, expire_of, migrates, drains_by, drain_turn_of, free_turn_of, reap_of}
use Rattle.group_model.specs.WorkerRequests.{takes_given, submits_of, finishes_by, finishes_of, nacks_of, serves_request, serves_worker}
use Rattle.group_model.specs.ClientRequests.{is_taken_already, proposes_for, writes, heartbeats_at, serves_client}
use Rattle.group_model.specs.Servers as servers
use Rattle.group_model.specs.Servers.{Server, open_desk, at_desk, takes_message}
use Rattle.processes.specs.Groups as groups
use Rattle.processes.specs.Groups.{ServerOf, GroupActor, GroupServer, IsServersOwn}
use Rattle.processes.proofs.Fine.{IsLive, own_live}

-- ---- the log's server

abbrev pub IsUp : {C : Type 0} → Raft C → Type 0
IsUp s = is_up s.mode ≡ true

module _ {C : Type 0} where
  either : (b : Bool) (x y : Raft C) → IsUp x → IsUp y → IsUp (if b then x else y)
  either true x y p q = p
  either false x y p q = q

  met_up : (term : ℕ) (s : Raft C) → IsUp s → IsUp (term_observed term s)
  met_up term s up = either (nat_lt s.term term) (record s { term = term; vote = None; known = None; mode = Follower }) s refl up

  granted_up : (s : Raft C) (from : ℕ) (b : Bool) → IsUp s → IsUp (granted s from b)
  granted_up s from true up = up
  granted_up s from false up = up

  counted_up : (noop : C) (n : ℕ) (s : Raft C) (from : ℕ) (mode : Mode) → IsUp s → IsUp (counted noop n s from mode)
  counted_up noop n s from Down up = up
  counted_up noop n s from Follower up = up
  counted_up noop n s from (Candidate votes) up = with_votes_up (slice_set votes from true)
    where
      with_votes_up : (v : List Bool) → IsUp (with_votes noop n s v)
      with_votes_up v = either (is_quorum n (marked v)) (won noop n s) (record s { mode = Candidate v }) refl refl
  counted_up noop n s from (Leader next match) up = up

  advanced_up : (n me : ℕ) (s : Raft C) (mode : Mode) → IsUp s → IsUp (advanced_in n me s mode)
  advanced_up n me s Down up = up
  advanced_up n me s Follower up = up
  advanced_up n me s (Candidate votes) up = up
  advanced_up n me s (Leader next match) up = up

  hears_up : (n me : ℕ) (s : Raft C) (j at : ℕ) (mode : Mode) → IsUp s → IsUp (after_append_ok n me s j at mode)
  hears_up n me s j at Down up = up
  hears_up n me s j at Follower up = up
  hears_up n me s j at (Candidate votes) up = up
  hears_up n me s j at (Leader next match) up =
      advanced_up n me (match_raised s j at next match) (match_raised s j at next match).mode (elim (bool_cases (nat_le at (length s.log))) [ inl b ↦ rw b refl | inr b ↦ rw b up ])

  refused_up : (n me : ℕ) (s : Raft C) (j at : ℕ) (mode : Mode) → IsUp s → IsUp (after_append_refusal n me s j at mode)
  refused_up n me s j at Down up = up
  refused_up n me s j at Follower up = up
  refused_up n me s j at (Candidate votes) up = up
  refused_up n me s j at (Leader next match) up = refl

  receives_up : (noop : C) (n me : ℕ) (s : Raft C) (from term : ℕ) (body : Body C) → IsUp s → IsUp (raft_steps.receives noop n me s from term body).server
  receives_up noop n me s from term (VoteRequest index its_last) up = granted_up s from (grants s from term index its_last) up
  receives_up noop n me s from term (VoteReply asked granting) up =
      either ((asked == s.term) && granting) (counted noop n s from s.mode) s (counted_up noop n s from s.mode up) up
  receives_up noop n me s from term (Append prev prev_term commit entries) up = elim (bool_cases (nat_lt term s.term)) [
    | inl b ↦ rw b up
    | inr b ↦ rw b (elim (bool_cases (is_leader s.mode)) [
      | inl d ↦ rw d up
      | inr d ↦ rw d (elim (bool_cases (is_held (following s from) prev prev_term)) [ inl e ↦ rw e refl | inr e ↦ rw e refl ])
    ])
  ]
  receives_up noop n me s from term (AppendReply asked true at) up = either (asked == s.term) (after_append_ok n me s from at s.mode) s (hears_up n me s from at s.mode up) up
  receives_up noop n me s from term (AppendReply asked false at) up = either (asked == s.term) (after_append_refusal n me s from at s.mode) s (refused_up n me s from at s.mode up) up
  receives_up noop n me s from term (Install P) up = elim (bool_cases (nat_lt term s.term)) [
    | inl b ↦ rw b up
    | inr b ↦ rw b (elim (bool_cases (is_leader s.mode)) [
      | inl d ↦ rw d up
      | inr d ↦ rw d (elim (bool_cases (nat_le (length P) s.commit)) [ inl e ↦ rw e refl | inr e ↦ rw e refl ])
    ])
  ]
  receives_up noop n me s from term (InstallReply asked at) up = either (asked == s.term) (after_append_ok n me s from at s.mode) s (hears_up n me s from at s.mode up) up

-- what a server takes whose process goes on
abbrev IsTaken : {C : Type 0} → raft_steps.Input C → Type 0
IsTaken raft_steps.Crash = ⊥
IsTaken _ = ⊤

module _ {S C : Type 0} (m : MachineSpec S C) (n i : ℕ) (s : Raft C) (up : IsUp s) where
  turn_is : (u t : RaftTurn C) → let r : Result (RaftTurn C) Refusal = Ok u in r ≡ Ok t → IsUp u.server → IsUp t.server
  turn_is u t h is = subst (λ (x : RaftTurn C). IsUp x.server) (same_ok u t h) is

  timeout_up : (t : RaftTurn C) → raft_steps.times_out n i s ≡ Ok t → IsUp t.server
  timeout_up t h = elim (bool_cases (is_leader s.mode)) [
    | inl b ↦ turn_is _ t (rw b at h) up
    | inr b ↦ let g = rw b at h in elim (bool_cases (nat_lt s.term MAX && nat_lt (length s.log) MAX)) [
      | inl d ↦ turn_is _ t (rw d at g) refl
      | inr d ↦ absurd (let no = rw d at g in cc)
    ]
  ]

  admitted_up : (command : C) (r : Option Refusal) (t : RaftTurn C) → raft_steps.unless r (silent (extended s command)) ≡ Ok t → IsUp t.server
  admitted_up command None t h = turn_is _ t h up
  admitted_up command (Some r) t h = absurd (cc)

  proposed_up : (command : C) (t : RaftTurn C) → raft_steps.proposes m s command ≡ Ok t → IsUp t.server
  proposed_up command t h = elim (bool_cases (is_leader s.mode)) [
    | inl b ↦ admitted_up command (raft_steps.admission_refusal m s command) t (rw b at h)
    | inr b ↦ absurd (let no = rw b at h in cc)
  ]

  acts_up : (input : raft_steps.Input C) (t : RaftTurn C) → IsTaken input → raft_steps.acts m n i s input ≡ Ok t → IsUp t.server
  acts_up (raft_steps.Arrives message) t live h = elim (bool_cases (nat_lt message.from n)) [
    | inl b ↦ turn_is _ t (rw b at h) (receives_up m.noop n i (term_observed message.term s) message.from message.term message.body (met_up message.term s up))
    | inr b ↦ absurd (let no = rw b at h in cc)
  ]
  acts_up raft_steps.Timeout t live h = timeout_up t h
  acts_up raft_steps.Beat t live h = turn_is _ t h up
  acts_up (raft_steps.Propose command) t live h = proposed_up command t h
  acts_up raft_steps.Compact t live h = turn_is _ t h up
  acts_up raft_steps.Crash t live h = absurd live
  acts_up raft_steps.Restart t live h = absurd (cc)

  step_up : (input : raft_steps.Input C) (t : RaftTurn C) → IsTaken input → raft_steps.step m n i s input ≡ Ok t → IsUp t.server
  step_up input t live h = acts_up input t live (rw up at h)

-- ---- what is asked of the log

abbrev IsCalm : Option Ask → Type 0
IsCalm None = ⊤
IsCalm (Some ask) = IsTaken (inputs.input_of ask)

abbrev CalmResult : Result Act Refusal → Type 0
CalmResult (Err r) = ⊤
CalmResult (Ok act) = IsCalm act.ask

calm_cond : (b : Bool) (x y : Act) → IsCalm x.ask → IsCalm y.ask → IsCalm (cond b x y).ask
calm_cond true x y p q = p
calm_cond false x y p q = q

calm_result : (b : Bool) (x y : Result Act Refusal) → CalmResult x → CalmResult y → CalmResult (cond b x y)
calm_result true x y p q = p
calm_result false x y p q = q

module _ (me : ℕ) (s : Raft Command) where
  calm_given : (from : ℕ) (o : Desk) (g : Given) → IsCalm (takes_given me from o g).ask
  calm_given from o Nothing = tt
  calm_given from o UsedUp = tt
  calm_given from o (Gives what broker) = tt

  calm_submit : (from : ℕ) (q : Plan) (d : Option Desk) (r : Result Desk Refusal) → IsCalm (submits_of me from q d r).ask
  calm_submit from q d (Err e) = tt
  calm_submit from q d (Ok o) = tt

  calm_finish_by : (from : ℕ) (id : EvalId) (token : Token) (f : EvalOutcome) (o : Desk) (r : Option Refusal) → IsCalm (finishes_by me from id token (commands.EvalStatus id (change_of f)) o r).ask
  calm_finish_by from id token f o (Some e) = tt
  calm_finish_by from id token f o None = tt

  calm_finish : (from : ℕ) (id : EvalId) (token : Token) (f : EvalOutcome) (o : Desk) (r : Result ℕ Refusal) → IsCalm (finishes_of me s from id token f o r).ask
  calm_finish from id token f o (Err e) = tt
  calm_finish from id token f o (Ok wait) = calm_finish_by from id token f o (admission_refusal cluster_spec s (commands.EvalStatus id (change_of f)))

  calm_nack : (from : ℕ) (id : EvalId) (token : Token) (o : Desk) (r : Result ℕ Refusal) → IsCalm (nacks_of me from id token o r).ask
  calm_nack from id token o (Err e) = tt
  calm_nack from id token o (Ok wait) = tt

  calm_request : (from : ℕ) (r : Result Desk Refusal) (d : Option Desk) (request : WorkerRequest) → IsCalm (serves_request me s from r d request).ask
  calm_request from (Err e) d Take = tt
  calm_request from (Ok o) d Take = calm_given from o (deliver s.term (length s.log) o.broker)
  calm_request from (Err e) d (Submit q) = tt
  calm_request from (Ok o) d (Submit q) = calm_submit from q d (submitted from (applied_state s) o q)
  calm_request from (Err e) d (Finish eval token f) = tt
  calm_request from (Ok o) d (Finish eval token f) = calm_finish from eval token f o (outstanding eval token o.broker)
  calm_request from (Err e) d (Nack eval token) = tt
  calm_request from (Ok o) d (Nack eval token) = calm_nack from eval token o (outstanding eval token o.broker)

  calm_worker : (from : ℕ) (r : Result Desk Refusal) (d : Option Desk) (message : WorkerMessage) → IsCalm (serves_worker me s from r d message).ask
  calm_worker from r d (Asks request) = calm_request from r d request
  calm_worker from r d (Answers response) = tt

  module _ (c : ℕ) (kind : ClientRequestKind) (command : Command) where
    calm_proposes : (d : Option Desk) (r : Option Refusal) → IsCalm (proposes_for me c kind command d r).ask
    calm_proposes d (Some e) = tt
    calm_proposes d None = tt

    calm_writes : (d : Option Desk) → IsCalm (writes me s c kind command d).ask
    calm_writes d = calm_cond (not (is_leader s.mode)) _ _ tt (calm_cond (is_taken_already (projected_state s) command) _ _ tt (calm_proposes d (admission_refusal cluster_spec s command)))

  calm_beats : (c : ℕ) (o : Desk) (p : Option HeartbeatCount) → IsCalm (heartbeats_at me c o p).ask
  calm_beats c o None = tt
  calm_beats c o (Some p) = tt

  calm_client : (c : ℕ) (r : Result Desk Refusal) (d : Option Desk) (request : ClientRequest) → IsCalm (serves_client me s c r d request).ask
  calm_client c r d (Register class size) = calm_writes c kinds.Register (commands.NodePut (record { number = c; class = class; size = size })) d
  calm_client c (Err e) d Heartbeat = tt
  calm_client c (Ok o) d Heartbeat = calm_beats c o (heartbeat_count_of c o.heartbeat_counts)
  calm_client c r d Pull = tt
  calm_client c r d (ReportStates items) = calm_writes c kinds.Report (commands.Report c items) d

  calm_expires : (d : Desk) (command : Command) (beats : ℕ) (p : Option HeartbeatCount) → CalmResult (expire_of d command beats p)
  calm_expires d command beats None = tt
  calm_expires d command beats (Some q) = calm_result _ (Ok _) (Err refusals.StaleExpiry) tt tt

  calm_moves : (d : Desk) (ids : List AllocId) → IsCalm (migrates d ids).ask
  calm_moves d [] = tt
  calm_moves d (id ∷ ids) = tt

  calm_drains_by : (d : Desk) (w : State) (n : Node) (r : Result (List AllocId) Refusal) → CalmResult (drains_by d w n r)
  calm_drains_by d w n (Err e) = tt
  calm_drains_by d w n (Ok ids) = calm_result (is_done n.number w) (Ok _) (Ok _) tt (calm_moves d ids)

  calm_drains : (d : Desk) (w : State) (n : Option Node) → CalmResult (drain_turn_of d w n)
  calm_drains d w None = tt
  calm_drains d w (Some n) = calm_drains_by d w n (next_moves_of w (Some n))

  calm_frees : (d : Desk) (e : Option Evaluation) → IsCalm (free_turn_of d e).ask
  calm_frees d None = tt
  calm_frees d (Some e) = tt

  calm_reaps : (d : Desk) (t : Option Task) → IsCalm (reap_of d t).ask
  calm_reaps d None = tt
  calm_reaps d (Some t) = tt

  calm_plan : (d : Desk) (w : QueuedPlan) (a : Accepted) (r : Option Refusal) → IsCalm (proposes_plan me s d w a r).ask
  calm_plan d w a (Some e) = tt
  calm_plan d w a None = tt

  calm_accept : (d : Desk) (w : QueuedPlan) (r : Result Accepted Refusal) → IsCalm (after_accept me s d w r).ask
  calm_accept d w (Err e) = tt
  calm_accept d w (Ok a) = calm_cond (keeps_some a) _ _ (calm_plan d w a (admission_refusal cluster_spec s (plan_command w.plan a))) tt

  calm_judged : (d : Desk) (w : QueuedPlan) (r : Result ℕ Refusal) → IsCalm (judged me s d w r).ask
  calm_judged d w (Err e) = tt
  calm_judged d w (Ok wait) = calm_accept d w (accept (projected_state s) w.plan wait)

  calm_turn : (d : Desk) (p : Option (Picked QueuedPlan)) → IsCalm (turn_of me s d p).ask
  calm_turn d None = tt
  calm_turn d (Some p) = calm_judged (record d { plans = p.others }) p.one (outstanding p.one.plan.eval p.one.plan.token d.broker)

module _ (n me : ℕ) (s : Server) where
  calm_at : (r : Result Desk Refusal) (turn : Desk → Result Act Refusal) → ((d : Desk) → CalmResult (turn d)) → CalmResult (at_desk r turn)
  calm_at (Err e) turn calm = tt
  calm_at (Ok d) turn calm = calm d

  calm_heard : (message : ServiceMessage) → CalmResult (takes_message n me s message)
  calm_heard (BetweenServers from to message) = calm_result (nat_lt from n) _ _ (calm_worker me s.raft from (open_desk s) s.desk message) tt
  calm_heard (ToServer client server request) = calm_client me s.raft client (open_desk s) s.desk request
  calm_heard (ToClient server client response) = tt

  calm_acts : (input : inputs.Input) → IsLive n me s input → CalmResult (servers.acts n me s input)
  calm_acts (inputs.Arrives message) live = calm_heard message
  calm_acts inputs.Timeout live = tt
  calm_acts inputs.Beat live = tt
  calm_acts (inputs.Request request) live = tt
  calm_acts (inputs.TakeFrom to) live = calm_result (nat_lt to n) _ _ tt tt
  calm_acts (inputs.SubmitTo to plan) live = calm_result (nat_lt to n) _ _ tt tt
  calm_acts (inputs.FinishAt to eval token outcome) live = calm_result (nat_lt to n) _ _ tt tt
  calm_acts (inputs.NackAt to eval token) live = calm_result (nat_lt to n) _ _ tt tt
  calm_acts inputs.PlanTurn live = calm_at (open_desk s) _ (λ d. calm_turn me s.raft d (pick (λ (w : QueuedPlan). w.priority) d.plans))
  calm_acts (inputs.Lapse eval) live = calm_at (open_desk s) _ (λ d. calm_result _ (Ok _) (Err refusals.NotOutstanding) tt tt)
  calm_acts (inputs.Expire node beats) live = calm_at (open_desk s) _ (λ d. calm_expires me s.raft d (expiry_command (applied_state s.raft) node) beats (heartbeat_count_of node d.heartbeat_counts))
  calm_acts (inputs.DrainTurn node) live = calm_at (open_desk s) _ (λ d. calm_drains me s.raft d (projected_state s.raft) (node_of node (projected_state s.raft)))
  calm_acts inputs.FreeTurn live = calm_at (open_desk s) _ (λ d. calm_frees me s.raft d _)
  calm_acts inputs.Reap live = calm_at (open_desk s) _ (λ d. calm_reaps me s.raft d _)
  calm_acts inputs.Compact live = tt
  calm_acts inputs.Crash live = absurd live
  calm_acts inputs.Restart live = tt

-- ---- the group's server

module _ (n i : ℕ) (s : Server) (up : IsUp s.raft) where
  logged_up : (act : Act) (input : raft_steps.Input Command) → IsTaken input → (r : Result (RaftTurn Command) Refusal) (turn : servers.ServerTurn) → raft_steps.step cluster_spec n i s.raft input ≡ r → servers.logged s act r ≡ Ok turn → IsUp turn.server.raft
  logged_up act input live (Err cause) turn is h = absurd (cc)
  logged_up act input live (Ok t) turn is h =
      subst (λ (x : servers.ServerTurn). IsUp x.server.raft) (same_ok _ _ h) (step_up cluster_spec n i s.raft up input t live is)

  asks_up : (act : Act) (ask : Option Ask) (turn : servers.ServerTurn) → IsCalm ask → servers.asks_log n i s act ask ≡ Ok turn → IsUp turn.server.raft
  asks_up act None turn calm h = subst (λ (x : servers.ServerTurn). IsUp x.server.raft) (same_ok _ _ h) up
  asks_up act (Some ask) turn calm h = logged_up act (inputs.input_of ask) calm (raft_steps.step cluster_spec n i s.raft (inputs.input_of ask)) turn refl h

  done_up : (r : Result Act Refusal) (turn : servers.ServerTurn) → CalmResult r → servers.done n i s r ≡ Ok turn → IsUp turn.server.raft
  done_up (Err cause) turn calm h = absurd (cc)
  done_up (Ok act) turn calm h = asks_up act act.ask turn calm h

  step_stays_up : (input : inputs.Input) (turn : servers.ServerTurn) → IsLive n i s input → servers.step n i s input ≡ Ok turn → IsUp turn.server.raft
  step_stays_up input turn live h = done_up (servers.acts n i s input) turn (calm_acts n i s input live) (rw up at h)

-- so each item of its process leaves it up
pub takes_up : (n i : ℕ) (s t : Server) (left : List GroupMessage) (a b : GroupActor) (item : groups.Item) (out : List GroupMessage) → IsUp s.raft → groups.GroupTakes n left (ServerOf i) a item b out → a ≡ GroupServer s → b ≡ GroupServer t → IsUp t.raft
takes_up n i s t left a b item out up (groups.log_comes j old message turn among to h) is now =
    let same : s ≡ old = cc is in
    let new : turn.server ≡ t = cc now in
    let old_up = subst (λ (x : Server). IsUp x.raft) same up in
    subst (λ (x : Server). IsUp x.raft) new (logged_up n i old old_up (inputs.rests old.desk) (raft_steps.Arrives message) tt (raft_steps.step cluster_spec n i old.raft (raft_steps.Arrives message)) turn refl h)
takes_up n i s t left a b item out up (groups.server_comes j old message turn among to fits h) is now =
    let same : s ≡ old = cc is in
    let new : turn.server ≡ t = cc now in
    let old_up = subst (λ (x : Server). IsUp x.raft) same up in
    subst (λ (x : Server). IsUp x.raft) new (step_stays_up n i old old_up (inputs.Arrives message) turn tt h)
takes_up n i s t left a b item out up (groups.server_own j old input turn own fits h) is now =
    let same : s ≡ old = cc is in
    let new : turn.server ≡ t = cc now in
    let old_up = subst (λ (x : Server). IsUp x.raft) same up in
    subst (λ (x : Server). IsUp x.raft) new (step_stays_up n i old old_up input turn (own_live n i old input own) h)
