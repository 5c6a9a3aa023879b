-- What a server does with the plan whose turn it is.
use Rattle.std.proofs.Common.{◌≡◌, ◌≢◌, ℕ, suc, true, false, Option, Some, None, Result, Ok, Err, [], ◌∷◌, length, refl, sym, subst, ap, ◌∙◌}
use Rattle.std.specs.Prelude.{IfOk, OnOk, option_map, is_some}
use Rattle.rows.specs.declared.refusal.NoMemory.{NoMemory}
use Rattle.std.proofs.lemmas.List.{append-nil}
use Rattle.rows.specs.Ids.{AreRisingNodes}
use Rattle.rows.specs.Reasons.{reason_of}
use Rattle.rows.specs.declared.command.Command.{Command}
use Rattle.rows.specs.declared.command.Command.TheVariants as commands
use Rattle.rows.specs.declared.command.AcceptedPlan.{AcceptedPlan}
use Rattle.rows.specs.declared.refusal.Refusal.{Refusal}
use Rattle.rows.specs.declared.refusal.Refusal.TheVariants as refusals
use Rattle.rows.specs.declared.worker.AskedRequest.TheVariants as asked
use Rattle.rows.specs.declared.worker.WorkerResponse.TheVariants.{Refused}
use Rattle.raft_model.specs.Rafts as rafts
use Rattle.raft_model.specs.Steps as raft_steps
use Rattle.raft_model.specs.Rafts.{extended, is_leader}
use Rattle.raft_model.specs.Steps.{admission_refusal}
use Rattle.raft_core.specs.RaftView.{SameRaft}
use Rattle.fsm_model.specs.Words.{State}
use Rattle.fsm_model.specs.ClusterMachine.{cluster_spec}
use Rattle.group_model.specs.Messages.{BetweenServers, Answers}
use Rattle.group_model.specs.Order.{Picked}
use Rattle.group_model.specs.Acceptance.{Accepted, keeps_some}
use Rattle.group_model.specs.Brokers.{outstanding}
use Rattle.group_model.specs.Desks.{Desk, QueuedPlan, projected_state}
use Rattle.group_model.specs.Inputs.{Act, Ask, PlanTurn, input_of}
use Rattle.group_model.specs.Servers.{Server, ServerTurn, open_desk, at_desk, asks_log, logged, done}
use Rattle.group_model.specs.Plans.{after_accept, told_result, told_refusal, plan_command, plan_turn}
use Rattle.group_model.specs.Queues.{first_plan}
use Rattle.leader.specs.OpenDesks.{OpenDesk, at_open}
use Rattle.leader.specs.GroupActs.{judged_act}
use Rattle.leader.proofs.Acts.{plan_turns_by_verdict}
use Rattle.leader.specs.declared.judged.JudgedPlan.{JudgedPlan}
use Rattle.leader.specs.Verdicts.{Judged, judged_by, verdict_for, once_picked, on_plan_turn}
use Rattle.server.specs.declared.server.Outbox.{Outbox}
use Rattle.server.specs.ServerViews.{ServerView, RefinesServer, SameServer}
use Rattle.server.specs.Steps.{TakesTurn}
use Rattle.server.specs.Refusals.{HasOpenDesk}
use Rattle.server.specs.Inner.Acts.{EachServer, Serves, DoesAct, EachDoes, IsProposed, WhyNotProposed, act_of}
use Rattle.server.specs.Inner.Plans.{settling, RefusesRising, result_with, KeptOf}
use Rattle.server.specs.Inner.Replies.{SendsOne}
use Rattle.server.proofs.Servers.{desk_at, open_at, same_is, serves_at}
use Rattle.server.proofs.DeskCalls.{open_of, called, Moves, moves, plan_turn_keeps}
use Rattle.server.proofs.Serving.{act_taken, does_alone, does_nothing, does_proposed, refused_why}
use Rattle.server.proofs.Refusing.{verdict_rises}

-- ---- what is kept of a plan

module _ (old new : ServerView) (before after : Outbox) (from : ℕ) (p : AcceptedPlan) (a : Accepted) (w : QueuedPlan) (k : KeptOf from p a w) (s : Server) (is : RefinesServer old s) (h : HasOpenDesk s) (work : after.work ≡ before.work) where
  open_one : (o : OpenDesk) × (old.desk ≡ Some o)
  open_one = open_of old.desk (subst (λ (d : Option Desk). is_some d ≡ true) (sym is.desk) h.is_open)

  abbrev one : Desk
  one = open_one.0.desk

  was : s.desk ≡ Some one
  was = desk_at old s is open_one.0 open_one.1

  abbrev judged : Judged
  judged = record { queued = w; kept = Ok a }

  settling_is : settling old judged s ≡ Ok (after_accept old.raft.me s.raft one w (Ok a))
  settling_is = ap (λ (d : Result Desk Refusal). at_desk d (λ d. Ok (after_accept old.raft.me s.raft d w (Ok a)))) (open_at old s is open_one.0 h.leads open_one.1)

  told_is : (last : ℕ) → BetweenServers old.raft.me from (Answers (result_with p last a)) ≡ told_result old.raft.me w last a
  told_is last = rw (← k.sender, k.plan) refl

  refusal_is : (e : Refusal) → BetweenServers old.raft.me from (Answers (Refused (asked.Submit p.eval p.token) (reason_of e))) ≡ told_refusal old.raft.me w e
  refusal_is e = rw (← k.sender, k.plan) refl

  open_server : RefinesServer new s → RefinesServer new (record s { desk = Some one })
  open_server = subst (λ (d : Option Desk). RefinesServer new (record s { desk = d })) was

  -- nothing is
  pub keeps_none : keeps_some a ≡ false → RefinesServer new s →
      SendsOne before.frames after.frames (BetweenServers old.raft.me from (Answers (result_with p (length s.raft.log) a))) → DoesAct old.raft.size old.raft.me s (settling old judged s) new before after
  keeps_none none server sent =
      let said = rw (told_is (length s.raft.log)) at sent in
      rw (settling_is, none) (does_alone old.raft.size old.raft.me s new before after (told_result old.raft.me w (length s.raft.log) a ∷ []) (Some one) [] (open_server server) said (work ∙ sym (append-nil before.work)))

  module _ (some : keeps_some a ≡ true) where
    -- it is proposed
    pub kept_proposed : IsProposed s (commands.Plan p) new →
        SendsOne before.frames after.frames (BetweenServers old.raft.me from (Answers (result_with p (suc (length s.raft.log)) a))) → DoesAct old.raft.size old.raft.me s (settling old judged s) new before after
    kept_proposed proposed sent =
        let said = rw (told_is (suc (length s.raft.log))) at sent in
        let q : IsProposed s (plan_command w.plan a) new = subst (λ (x : AcceptedPlan). IsProposed s (commands.Plan x) new) k.plan proposed in
        let free : admission_refusal cluster_spec s.raft (plan_command w.plan a) ≡ None = q.admitted in
        let server : RefinesServer new (record { raft = extended s.raft (plan_command w.plan a); desk = Some one }) = subst (λ (d : Option Desk). RefinesServer new (record { raft = extended s.raft (plan_command w.plan a); desk = d })) was q.server in
        rw (settling_is, some, free) (does_proposed old.raft.size old.raft.me s new before after (plan_command w.plan a) (told_result old.raft.me w (suc (length s.raft.log)) a ∷ []) (Some one) q.leads q.admitted server said work)

    refused_as : (e : Refusal) → admission_refusal cluster_spec s.raft (commands.Plan p) ≡ Some e → RefinesServer new s →
        SendsOne before.frames after.frames (BetweenServers old.raft.me from (Answers (Refused (asked.Submit p.eval p.token) (reason_of e)))) → DoesAct old.raft.size old.raft.me s (settling old judged s) new before after
    refused_as e why server sent =
        let said = rw (refusal_is e) at sent in
        let because : admission_refusal cluster_spec s.raft (plan_command w.plan a) ≡ Some e = subst (λ (x : AcceptedPlan). admission_refusal cluster_spec s.raft (commands.Plan x) ≡ Some e) k.plan why in
        rw (settling_is, some, because) (does_alone old.raft.size old.raft.me s new before after (told_refusal old.raft.me w e ∷ []) (Some one) [] (open_server server) said (work ∙ sym (append-nil before.work)))

    -- the log refuses it
    pub kept_refused : (e : Refusal) → WhyNotProposed s.raft (commands.Plan p) e → e ≢ refusals.NoMemory → RefinesServer new s →
        SendsOne before.frames after.frames (BetweenServers old.raft.me from (Answers (Refused (asked.Submit p.eval p.token) (reason_of e)))) → DoesAct old.raft.size old.raft.me s (settling old judged s) new before after
    kept_refused e why other = refused_as e (refused_why s.raft (commands.Plan p) e h.leads other why)

-- the same of each server that a value is, and of what the sending answers
module _ (old new : ServerView) (before after : Outbox) (from : ℕ) (p : AcceptedPlan) (a : Accepted) (h : Serves old) (work : after.work ≡ before.work) where
  abbrev Settles : Type 0
  Settles = (w : QueuedPlan) → KeptOf from p a w → EachDoes old (settling old (record { queued = w; kept = Ok a })) new before after

  pub none_sent : (r : Result (Unit {0}) NoMemory) (last : ℕ) → keeps_some a ≡ false → SameServer old new → EachServer old (λ s. last ≡ length s.raft.log) →
      OnOk r (SendsOne before.frames after.frames (BetweenServers old.raft.me from (Answers (result_with p last a)))) → OnOk r Settles
  none_sent (Err e) last none same known sent = tt
  none_sent (Ok u) last none same known sent = λ w k s is.
      keeps_none old new before after from p a w k s is (serves_at old s is h) work none (same_is old new s same is)
      (subst (λ (n : ℕ). SendsOne before.frames after.frames (BetweenServers old.raft.me from (Answers (result_with p n a)))) (known s is) sent)

  pub kept_sent : (next : ℕ) → keeps_some a ≡ true → EachServer old (λ s. next ≡ suc (length s.raft.log)) → EachServer old (λ s. IsProposed s (commands.Plan p) new) →
      SendsOne before.frames after.frames (BetweenServers old.raft.me from (Answers (result_with p next a))) → Settles
  kept_sent next some known proposed sent w k s is =
      kept_proposed old new before after from p a w k s is (serves_at old s is h) work some (proposed s is)
      (subst (λ (n : ℕ). SendsOne before.frames after.frames (BetweenServers old.raft.me from (Answers (result_with p n a)))) (known s is) sent)

  pub refusal_sent : (r : Result (Unit {0}) NoMemory) (e : Refusal) → keeps_some a ≡ true → EachServer old (λ s. WhyNotProposed s.raft (commands.Plan p) e) → e ≢ refusals.NoMemory → SameServer old new →
      OnOk r (SendsOne before.frames after.frames (BetweenServers old.raft.me from (Answers (Refused (asked.Submit p.eval p.token) (reason_of e))))) → OnOk r Settles
  refusal_sent (Ok u) e some why other same sent = λ w k s is. kept_refused old new before after from p a w k s is (serves_at old s is h) work some e (why s is) other (same_is old new s same is) sent
  refusal_sent (Err x) e some why other same sent = tt

-- ---- the turn

same_answer : {A : Type 0} {x y : A} → (let r : Result A Refusal = Ok x in r ≡ Ok y) → x ≡ y
same_answer h = cc

same_some : {A : Type 0} {x y : A} → (let r : Option A = Some x in r ≡ Some y) → x ≡ y
same_some h = cc

if_kept : (r : Result Accepted Refusal) → ((a : Accepted) → r ≡ Ok a → AreRisingNodes a.refused) → IfOk r (λ (a : Accepted). AreRisingNodes a.refused)
if_kept (Ok a) f = f a refl
if_kept (Err e) f = tt

picked_rises : (whole : State) (o : OpenDesk) (j : Judged) (p : Option (Picked QueuedPlan)) → (once_picked whole o p).0 ≡ Some j → RefusesRising j
picked_rises whole o j None h = absurd cc
picked_rises whole o j (Some p) h =
    let pair = outstanding p.one.plan.eval p.one.plan.token o.desk.broker in
    subst RefusesRising (same_some h) (if_kept (verdict_for whole p.one.plan pair) (λ a is. verdict_rises whole p.one.plan a pair is))

judged_rises : (whole : State) (d new : Option OpenDesk) (j : Judged) → at_open (on_plan_turn whole) d ≡ Ok (Some j, new) → RefusesRising j
judged_rises whole d new j call =
    let k = called (on_plan_turn whole) d (Some j) new call in
    picked_rises whole k.before j (first_plan k.before.desk.plans) (ap (λ (t : Option Judged × OpenDesk). t.0) (same_answer k.answers))

-- what is judged tells nodes that strictly rise
pub answer_rises : (whole : State) (d new : Option OpenDesk) (answer : Option JudgedPlan) (j : JudgedPlan) → at_open (on_plan_turn whole) d ≡ Ok (option_map judged_by answer, new) → answer ≡ Some j → RefusesRising (judged_by j)
answer_rises whole d new answer j call is = judged_rises whole d new (judged_by j) (rw is at call)

-- a desk that another is in place of asks the log for the same
logged_same : (s : Server) (d : Option Desk) (a : Act) (r : Result (rafts.RaftTurn Command) Refusal) → logged (record s { desk = d }) a r ≡ logged s a r
logged_same s d a (Err e) = refl
logged_same s d a (Ok turn) = refl

done_same : (n me : ℕ) (s : Server) (d : Option Desk) (a : Act) → done n me (record s { desk = d }) (Ok a) ≡ done n me s (Ok a)
done_same n me s d a = by a.ask where
  by : (ask : Option Ask) → asks_log n me (record s { desk = d }) a ask ≡ asks_log n me s a ask
  by None = refl
  by (Some ask) = logged_same s d a (raft_steps.step cluster_spec n me s.raft (input_of ask))

module _ (old mid : ServerView) (s : Server) (is : RefinesServer old s) (h : HasOpenDesk s) (same : SameRaft old.raft mid.raft) (j : Option Judged) (call : at_open (on_plan_turn (projected_state s.raft)) old.desk ≡ Ok (j, mid.desk)) where
  turned : Moves (on_plan_turn (projected_state s.raft)) s j mid
  turned = moves (on_plan_turn (projected_state s.raft)) (plan_turn_keeps (projected_state s.raft)) s old mid j h.leads is same call

  abbrev left : Desk
  left = turned.after.desk

  act_is : act_of old PlanTurn s ≡ Ok (judged_act old.raft.me s.raft left j)
  act_is =
      let o = turned.before in
      let pair : once_picked (projected_state s.raft) o (first_plan o.desk.plans) ≡ (j, turned.after) = same_answer turned.answers in
      ap (λ (d : Result Desk Refusal). at_desk d (λ d. Ok (plan_turn old.raft.me s.raft d))) turned.is_open
      ∙ ap act_taken (plan_turns_by_verdict old.raft.me s.raft o)
      ∙ ap (λ (t : Option Judged × OpenDesk). act_taken (judged_act old.raft.me s.raft t.1.desk t.0)) pair

  -- no plan waits
  pub plan_rests : j ≡ None → (out : Outbox) → DoesAct old.raft.size old.raft.me s (act_of old PlanTurn s) mid out out
  plan_rests none out =
      subst (λ (a : Result Act Refusal). DoesAct old.raft.size old.raft.me s a mid out out) (sym (act_is ∙ ap (λ (x : Option Judged). act_taken (judged_act old.raft.me s.raft left x)) none))
      (does_nothing old.raft.size old.raft.me s mid out out (Some left) turned.server refl)

  -- one is judged
  pub plan_settles : (judged : Judged) → j ≡ Some judged → mid.raft.me ≡ old.raft.me → mid.raft.size ≡ old.raft.size → (new : ServerView) (before after : Outbox) → EachDoes mid (settling mid judged) new before after → DoesAct old.raft.size old.raft.me s (act_of old PlanTurn s) new before after
  plan_settles judged some me size new before after settled =
      let t : Server = record s { desk = Some left } in
      let got : DoesAct mid.raft.size mid.raft.me t (settling mid judged t) new before after = settled t turned.server in
      let placed : DoesAct old.raft.size old.raft.me t (settling old judged t) new before after =
      subst (λ (n : ℕ). DoesAct n old.raft.me t (settling old judged t) new before after) size
      (subst (λ (me : ℕ). DoesAct mid.raft.size me t ((at_desk (open_desk t) (λ d. Ok (after_accept me t.raft d judged.queued judged.kept)))) new before after) me got) in
      let a = after_accept old.raft.me s.raft left judged.queued judged.kept in
      let leads : is_leader s.raft.mode ≡ true = h.leads in
      let open_t : open_desk t ≡ Ok left = rw leads refl in
      let at_t : settling old judged t ≡ Ok a = ap (λ (d : Result Desk Refusal). at_desk d (λ d. Ok (after_accept old.raft.me s.raft d judged.queued judged.kept))) open_t in
      let done_t = subst (λ (q : Result ServerTurn Refusal). TakesTurn q new before after) (ap (done old.raft.size old.raft.me t) at_t ∙ done_same old.raft.size old.raft.me s (Some left) a) placed in
      subst (λ (x : Result Act Refusal). DoesAct old.raft.size old.raft.me s x new before after) (sym (act_is ∙ ap (λ (x : Option Judged). act_taken (judged_act old.raft.me s.raft left x)) some)) done_t

-- the same of each server that a value is
module _ (old mid new : ServerView) (before after : Outbox) (answer : Option JudgedPlan) (h : EachServer old (λ s. HasOpenDesk s)) (same : SameRaft old.raft mid.raft)
    (call : EachServer old (λ s. at_open (on_plan_turn (projected_state s.raft)) old.desk ≡ Ok (option_map judged_by answer, mid.desk))) where
  pub plan_settled : (j : JudgedPlan) → answer ≡ Some j → EachDoes mid (settling mid (judged_by j)) new before after → EachDoes old (act_of old PlanTurn) new before after
  plan_settled j some settled s is =
      plan_settles old mid s is (h s is) same (option_map judged_by answer) (call s is) (judged_by j) (ap (λ (x : Option JudgedPlan). option_map judged_by x) some) same.me same.size new before after settled

  pub plan_none : answer ≡ None → (out : Outbox) → EachDoes old (act_of old PlanTurn) mid out out
  plan_none none out s is = plan_rests old mid s is (h s is) same (option_map judged_by answer) (call s is) (ap (λ (x : Option JudgedPlan). option_map judged_by x) none) out

-- the desk stays open
pub still_open : (whole : State) (d new : Option OpenDesk) (j : Option Judged) → at_open (on_plan_turn whole) d ≡ Ok (j, new) → is_some new ≡ true
still_open whole d new j call = ap (λ (x : Option OpenDesk). is_some x) (called (on_plan_turn whole) d j new call).is
