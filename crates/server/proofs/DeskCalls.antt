-- What the calls of a desk answer and leave, where it is open, and that it stays the leader's.
use Rattle.std.proofs.Common.{◌≡◌, ◌≢◌, ◌⊎◌, inl, inr, ℕ, Bool, true, false, cond, Option, Some, None, Result, Ok, Err, refl, sym, subst, ap, ◌∙◌}
use Rattle.std.specs.Prelude.{IfSome, is_some}
use Rattle.rows.specs.declared.evaluation.EvalId.{EvalId}
use Rattle.rows.specs.declared.token.Token.{Token}
use Rattle.rows.specs.declared.plan.Plan.{Plan}
use Rattle.rows.specs.declared.command.Command.{Command}
use Rattle.rows.specs.declared.refusal.Refusal.{Refusal}
use Rattle.rows.specs.declared.refusal.Refusal.TheVariants as refusals
use Rattle.fsm_model.specs.Words.{State}
use Rattle.group_model.specs.Brokers.{Given, Nothing, UsedUp, Gives, deliver, outstanding, is_outstanding, with_ack, with_nack}
use Rattle.group_model.specs.Expiry.{HeartbeatCount, heartbeat_count_of}
use Rattle.group_model.specs.HeartbeatCounts.{heartbeat_counted_of}
use Rattle.group_model.specs.Order.{Picked}
use Rattle.group_model.specs.Plans.{submitted}
use Rattle.group_model.specs.Queues.{first_plan}
use Rattle.group_model.specs.Desks.{Desk, QueuedPlan, applied_state}
use Rattle.group_model.specs.Servers.{Server, open_desk}
use Rattle.raft_model.specs.Rafts.{Raft, is_leader}
use Rattle.raft_core.specs.RaftView.{SameRaft}
use Rattle.leader.specs.OpenDesks.{OpenDesk, IsOverBlocked, OutOfMemoryIfOpen, Answered, leaves_open, at_open, with_broker, once_given, once_outstanding, once_counted, once_submitted, on_deliver, on_ack, on_nack, on_lapse, on_submit, on_heartbeat}
use Rattle.leader.specs.Verdicts.{once_picked, on_plan_turn}
use Rattle.leader.specs.Staying.{IsOver}
use Rattle.leader.proofs.Staying.{deliver_stays, ack_stays, nack_stays, lapse_stays, beat_stays, submit_stays, plan_turn_stays}
use Rattle.server.specs.ServerViews.{ServerView, RefinesServer, IsOfLeader, group_desk}
use Rattle.server.specs.Refusals.{HasOpenDesk}
use Rattle.server.proofs.Servers.{same_raft, desk_at, open_at}

-- an open desk, by the group's
pub open_of : (d : Option OpenDesk) → is_some (group_desk d) ≡ true → (o : OpenDesk) × (d ≡ Some o)
open_of None h = absurd cc
open_of (Some o) h = (o, refl)

same_answer : {A B : Type 0} {x y : A} → (let r : Result A B = Ok x in r ≡ Ok y) → x ≡ y
same_answer h = cc

same_refusal : {A B : Type 0} {x y : B} → (let r : Result A B = Err x in r ≡ Err y) → x ≡ y
same_refusal h = cc

-- a call that an open desk took
pub record Called {A : Type 0} (call : OpenDesk → Answered A) (old : Option OpenDesk) (a : A) (new : Option OpenDesk) : Type 0 where
  pub before : OpenDesk
  pub after : OpenDesk
  pub was : old ≡ Some before
  pub is : new ≡ Some after
  pub answers : call before ≡ Ok (a, after)

module _ {A : Type 0} (call : OpenDesk → Answered A) where
  called_by : (o : OpenDesk) (a : A) (new : Option OpenDesk) (r : Answered A) → call o ≡ r → leaves_open r ≡ Ok (a, new) → Called call (Some o) a new
  called_by o a new (Err e) is h = absurd cc
  called_by o a new (Ok p) is h = record {
    before = o;
    after = p.1;
    was = refl;
    is = sym (ap (λ (x : A × Option OpenDesk). x.1) (same_answer h));
    answers = is ∙ ap (λ (x : A). let r : Answered A = Ok (x, p.1) in r) (ap (λ (x : A × Option OpenDesk). x.0) (same_answer h));
  }

  pub called : (old : Option OpenDesk) (a : A) (new : Option OpenDesk) → at_open call old ≡ Ok (a, new) → Called call old a new
  called None a new h = absurd cc
  called (Some o) a new h = called_by o a new (call o) refl h

  refused_by : (e : Refusal) (r : Answered A) → leaves_open r ≡ Err e → r ≡ Err e
  refused_by e (Err r) h = ap (λ (x : Refusal). let a : Answered A = Err x in a) (same_refusal h)
  refused_by e (Ok p) h = absurd cc

  -- why an open desk refuses a call
  pub refused : (old : Option OpenDesk) (o : OpenDesk) (e : Refusal) → old ≡ Some o → at_open call old ≡ Err e → call o ≡ Err e
  refused old o e has h = refused_by e (call o) (rw has at h)

  abbrev left_by : OpenDesk → Answered A → OpenDesk
  left_by o (Err e) = o
  left_by o (Ok p) = p.1

-- a refusal that is no want of memory
pub not_lacking : {P : Type 0} (d : Option OpenDesk) (e : Refusal) → e ≢ refusals.NoMemory → OutOfMemoryIfOpen d e ⊎ P → P
not_lacking d e other (inr p) = p
not_lacking None e other (inl l) = absurd l
not_lacking (Some o) e other (inl l) = absurd (other l)

-- a call leaves the desk of its state and in its term
abbrev pub Keeps : {A : Type 0} → (OpenDesk → Answered A) → Type 0
Keeps {A} call = (s : State) (o : OpenDesk) (a : A) (new : OpenDesk) → IsOver s o → call o ≡ Ok (a, new) → IsOver s new × (new.term ≡ o.term)

-- A call that an open desk took, of a leader that a value is: the desk stays the leader's.
pub record Moves {A : Type 0} (call : OpenDesk → Answered A) (s : Server) (a : A) (new : ServerView) : Type 0 where
  pub before : OpenDesk
  pub after : OpenDesk
  pub was : s.desk ≡ Some before.desk
  pub is_open : open_desk s ≡ Ok before.desk
  pub of : IsOfLeader s.raft before
  pub answers : call before ≡ Ok (a, after)
  pub server : RefinesServer new (record s { desk = Some after.desk })

module _ {A : Type 0} (call : OpenDesk → Answered A) (keeps : Keeps call) (s : Server) where
  pub moves : (old new : ServerView) (a : A) → is_leader s.raft.mode ≡ true → RefinesServer old s → SameRaft old.raft new.raft → at_open call old.desk ≡ Ok (a, new.desk) → Moves call s a new
  moves old new a leads is same h =
      let k = called call old.desk a new.desk h in
      let of : IsOfLeader s.raft k.before = subst (λ (d : Option OpenDesk). IfSome d (IsOfLeader s.raft)) k.was is.led in
      let left = keeps (applied_state s.raft) k.before a k.after of.over k.answers in
      let led : IsOfLeader s.raft k.after = record { leads = of.leads; term = left.1 ∙ of.term; over = left.0 } in
      record {
        before = k.before;
        after = k.after;
        was = desk_at old s is k.before k.was;
        is_open = open_at old s is k.before leads k.was;
        of = of;
        answers = k.answers;
        server = record {
          raft = same_raft old.raft new.raft s.raft same is.raft;
          desk = ap group_desk k.is;
          led = subst (λ (d : Option OpenDesk). IfSome d (IsOfLeader s.raft)) (sym k.is) led;
        };
      }

-- and one that it refused
pub record Holds {A : Type 0} (call : OpenDesk → Answered A) (s : Server) (e : Refusal) : Type 0 where
  pub desk : OpenDesk
  pub was : s.desk ≡ Some desk.desk
  pub is_open : open_desk s ≡ Ok desk.desk
  pub answers : call desk ≡ Err e

pub holds : {A : Type 0} (call : OpenDesk → Answered A) (s : Server) (old : ServerView) (e : Refusal) → HasOpenDesk s → RefinesServer old s → at_open call old.desk ≡ Err e → Holds call s e
holds call s old e h is refuses =
    let o = open_of old.desk (subst (λ (d : Option Desk). is_some d ≡ true) (sym is.desk) h.is_open) in
    record { desk = o.0; was = desk_at old s is o.0 o.1; is_open = open_at old s is o.0 h.leads o.1; answers = refused call old.desk o.0 e o.1 refuses }

term_kept : {A : Type 0} (call : OpenDesk → Answered A) (o : OpenDesk) (a : A) (new : OpenDesk) → (left_by call o (call o)).term ≡ o.term → call o ≡ Ok (a, new) → new.term ≡ o.term
term_kept {A} call o a new keeps h = sym (ap (λ (r : Answered A). (left_by call o r).term) h) ∙ keeps

given_term : (wait : ℕ) (o : OpenDesk) (g : Given) → (left_by (on_deliver wait) o (once_given o g)).term ≡ o.term
given_term wait o Nothing = refl
given_term wait o UsedUp = refl
given_term wait o (Gives what broker) = refl

pub deliver_keeps : (wait : ℕ) → Keeps (on_deliver wait)
deliver_keeps wait s o a new over h = (deliver_stays s wait o a new over h, term_kept (on_deliver wait) o a new (given_term wait o (deliver o.term wait o.desk.broker)) h)

module _ (id : EvalId) (token : Token) (o : OpenDesk) where
  pair_term : (call : OpenDesk → Answered (Unit {0})) (new : OpenDesk) (r : Result ℕ Refusal) → new.term ≡ o.term → (left_by call o (once_outstanding new r)).term ≡ o.term
  pair_term call new (Err e) same = refl
  pair_term call new (Ok wait) same = same

pub ack_keeps : (id : EvalId) (token : Token) → Keeps (on_ack id token)
ack_keeps id token s o a new over h = (ack_stays s id token o a new over h, term_kept (on_ack id token) o a new (pair_term id token o (on_ack id token) (with_broker (with_ack id o.desk.broker) o) (outstanding id token o.desk.broker) refl) h)

pub nack_keeps : (id : EvalId) (token : Token) → Keeps (on_nack id token)
nack_keeps id token s o a new over h = (nack_stays s id token o a new over h, term_kept (on_nack id token) o a new (pair_term id token o (on_nack id token) (with_broker (with_nack id o.desk.broker) o) (outstanding id token o.desk.broker) refl) h)

lapse_term : (id : EvalId) (o : OpenDesk) (b : Bool) → (left_by (on_lapse id) o (cond {A = Answered (Unit {0})} b (Ok (tt, with_broker (with_nack id o.desk.broker) o)) (Err refusals.NotOutstanding))).term ≡ o.term
lapse_term id o true = refl
lapse_term id o false = refl

pub lapse_keeps : (id : EvalId) → Keeps (on_lapse id)
lapse_keeps id s o a new over h = (lapse_stays s id o a new over h, term_kept (on_lapse id) o a new (lapse_term id o (is_outstanding id o.desk.broker)) h)

beat_term : (node : ℕ) (o : OpenDesk) (c : Option HeartbeatCount) → (left_by (on_heartbeat node) o (once_counted o (heartbeat_counted_of node o.desk.heartbeat_counts c))).term ≡ o.term
beat_term node o None = refl
beat_term node o (Some c) = refl

pub beat_keeps : (node : ℕ) → Keeps (on_heartbeat node)
beat_keeps node s o a new over h = (beat_stays s node o a new over h, term_kept (on_heartbeat node) o a new (beat_term node o (heartbeat_count_of node o.desk.heartbeat_counts)) h)

picked_term : (whole : State) (o : OpenDesk) (p : Option (Picked QueuedPlan)) → (once_picked whole o p).1.term ≡ o.term
picked_term whole o None = refl
picked_term whole o (Some p) = refl

pub plan_turn_keeps : (whole : State) → Keeps (on_plan_turn whole)
plan_turn_keeps whole s o a new over h = (plan_turn_stays s whole o a new over h, term_kept (on_plan_turn whole) o a new (picked_term whole o (first_plan o.desk.plans)) h)

submitted_term : (call : OpenDesk → Answered (Unit {0})) (o : OpenDesk) (r : Result Desk Refusal) → (left_by call o (once_submitted o r)).term ≡ o.term
submitted_term call o (Err e) = refl
submitted_term call o (Ok d) = refl

pub submit_keeps : (from : ℕ) (applied : State) (p : Plan) → Keeps (on_submit from applied p)
submit_keeps from applied p s o a new over h = (submit_stays s applied from p o a new over h, term_kept (on_submit from applied p) o a new (submitted_term (on_submit from applied p) o (submitted from applied o.desk p)) h)

-- an open desk has the blocked evaluations of the applied state
pub over_blocked : (s : Raft Command) (d : Option OpenDesk) → is_some d ≡ true → IfSome d (IsOfLeader s) → IsOverBlocked (applied_state s) d
over_blocked s None h led = absurd cc
over_blocked s (Some o) h led = led.over.blocked
