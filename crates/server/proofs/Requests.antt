-- What a server does with requests of workers.
use Rattle.std.proofs.Common.{◌≡◌, ◌≢◌, ℕ, ◌<◌, nat_lt, true, [], ◌∷◌, Option, Some, Result, Ok, Err, refl, sym, subst, ap, ◌∙◌}
use Rattle.std.specs.Prelude.{OnOk, is_some, length}
use Rattle.std.proofs.lemmas.Bool.{lt-ltb}
use Rattle.std.proofs.lemmas.List.{append-nil}
use Rattle.rows.specs.declared.evaluation.EvalId.{EvalId}
use Rattle.rows.specs.declared.token.Token.{Token}
use Rattle.rows.specs.declared.token.Delivery.{Delivery}
use Rattle.rows.specs.declared.plan.Plan.{Plan}
use Rattle.rows.specs.declared.command.Command.{Command}
use Rattle.rows.specs.declared.command.Command.TheVariants as commands
use Rattle.rows.specs.declared.refusal.NoMemory.{NoMemory}
use Rattle.rows.specs.declared.refusal.Refusal.{Refusal}
use Rattle.rows.specs.declared.refusal.Refusal.TheVariants as refusals
use Rattle.rows.specs.declared.worker.EvalOutcome.{EvalOutcome}
use Rattle.rows.specs.declared.worker.AskedRequest.TheVariants as asked
use Rattle.rows.specs.declared.worker.WorkerRequest.{WorkerRequest}
use Rattle.rows.specs.declared.worker.WorkerRequest.TheVariants as requests
use Rattle.rows.specs.declared.worker.WorkerResponse.TheVariants.{Refused, Delivered}
use Rattle.rows.specs.Reasons.{reason_of}
use Rattle.rows.specs.Changes.{change_of}
use Rattle.raft_model.specs.Rafts.{extended}
use Rattle.raft_core.specs.RaftView.{RaftView, SameRaft}
use Rattle.fsm_model.specs.Words.{State}
use Rattle.group_model.specs.Messages.{BetweenServers, Asks, Answers}
use Rattle.group_model.specs.Brokers.{deliver, with_ack}
use Rattle.group_model.specs.Desks.{Desk, applied_state}
use Rattle.group_model.specs.Inputs.{Act, AskPropose, rests, asks, sends}
use Rattle.group_model.specs.Servers.{Server, open_desk, asks_server}
use Rattle.group_model.specs.WorkerRequests.{refuses, takes_work, takes_given, finishes, nacks}
use Rattle.leader.specs.OpenDesks.{OpenDesk, Answered, at_open, with_broker, once_outstanding, on_outstanding, on_deliver, on_ack, on_nack, on_submit}
use Rattle.leader.specs.GroupActs.{take_act, nack_act, submit_act, finish_act, proposes_at}
use Rattle.leader.proofs.Acts.{takes_by_deliver, nacks_by_nack, submits_by_submit, finishes_by_ack}
use Rattle.server.specs.declared.server.Outbox.{Outbox}
use Rattle.server.specs.ServerViews.{ServerView, RefinesServer, SameServer}
use Rattle.server.specs.Refusals.{HasOpenDesk}
use Rattle.server.specs.Inner.Acts.{EachServer, DoesAct, EachDoes, act_of, asks_of, IsProposed, WhyNotProposed, request_act}
use Rattle.server.specs.Inner.Replies.{SendsOne, HasPair}
use Rattle.server.proofs.Servers.{desk_at, open_at, same_is}
use Rattle.server.proofs.DeskCalls.{open_of, Moves, moves, Holds, holds, deliver_keeps, ack_keeps, nack_keeps, submit_keeps}
use Rattle.server.proofs.Serving.{act_taken, does_alone, does_nothing, does_proposed, nothing_sent, refused_why}

-- ---- Take, Nack: the desk takes the call

module _ (old new : ServerView) (before after : Outbox) (s : Server) (from : ℕ) where
  pub take_moved : (given : Option Delivery) → Moves (on_deliver (length s.raft.log)) s given new → SendsOne before.frames after.frames (BetweenServers old.raft.me from (Answers (Delivered given))) → after.work ≡ before.work →
      DoesAct old.raft.size old.raft.me s (request_act old from requests.Take s) new before after
  take_moved given m sent work =
      let o = m.before in
      let term : o.term ≡ s.raft.term = m.of.term in
      let act : request_act old from requests.Take s ≡ Ok (sends (BetweenServers old.raft.me from (Answers (Delivered given)) ∷ []) (Some m.after.desk)) =
      ap (λ (d : Result Desk Refusal). act_taken (takes_work old.raft.me s.raft from d s.desk)) m.is_open
      ∙ ap (λ (t : ℕ). act_taken (takes_given old.raft.me from o.desk (deliver t (length s.raft.log) o.desk.broker))) (sym term)
      ∙ ap act_taken (takes_by_deliver old.raft.me from (length s.raft.log) o)
      ∙ ap (λ (r : Answered (Option Delivery)). act_taken (take_act old.raft.me from o r)) m.answers in
      subst (λ (act : Result Act Refusal). DoesAct old.raft.size old.raft.me s act new before after) (sym act)
      (does_alone old.raft.size old.raft.me s new before after (BetweenServers old.raft.me from (Answers (Delivered given)) ∷ []) (Some m.after.desk) [] m.server sent (work ∙ sym (append-nil before.work)))

  pub nack_moved : (id : EvalId) (token : Token) → Moves (on_nack id token) s tt new → after ≡ before →
      DoesAct old.raft.size old.raft.me s (request_act old from (requests.Nack id token) s) new before after
  nack_moved id token m nothing =
      let o = m.before in
      let act : request_act old from (requests.Nack id token) s ≡ Ok (rests (Some m.after.desk)) =
      ap (λ (d : Result Desk Refusal). act_taken (nacks old.raft.me from id token d s.desk)) m.is_open
      ∙ ap act_taken (nacks_by_nack old.raft.me from id token o)
      ∙ ap (λ (r : Answered (Unit {0})). act_taken (nack_act old.raft.me from id token o r)) m.answers in
      subst (λ (act : Result Act Refusal). DoesAct old.raft.size old.raft.me s act new before after) (sym act)
      (does_nothing old.raft.size old.raft.me s new before after (Some m.after.desk) m.server nothing)

-- ---- Finish

module _ (old new : ServerView) (before after : Outbox) (s : Server) (from : ℕ) (id : EvalId) (token : Token) (outcome : EvalOutcome) where
  finish_is : (o : OpenDesk) → open_desk s ≡ Ok o.desk →
      request_act old from (requests.Finish id token outcome) s ≡ Ok (finish_act (refuses old.raft.me from (asked.Finish id token) (Some o.desk)) s.raft (commands.EvalStatus id (change_of outcome)) (on_ack id token o))
  finish_is o is_open = ap (λ (d : Result Desk Refusal). act_taken (finishes old.raft.me s.raft from id token outcome d s.desk)) is_open ∙ ap act_taken (finishes_by_ack old.raft.me from s.raft id token outcome o)

  -- the log takes the status, and the pair is done with
  pub finish_acked : (mid : ServerView) → RefinesServer old s → IsProposed s (commands.EvalStatus id (change_of outcome)) mid → new.raft ≡ mid.raft → at_open (on_ack id token) mid.desk ≡ Ok (tt, new.desk) → after ≡ before →
      DoesAct old.raft.size old.raft.me s (request_act old from (requests.Finish id token outcome) s) new before after
  finish_acked mid is p raft call nothing =
      let c = commands.EvalStatus id (change_of outcome) in
      let t : Server = record s { raft = extended s.raft c } in
      let same : SameRaft mid.raft new.raft = subst (λ (v : RaftView State Command). SameRaft mid.raft v) (sym raft) (record { me = refl; size = refl; base = refl; server = refl }) in
      let m = moves (on_ack id token) (ack_keeps id token) t mid new tt p.leads p.server same call in
      let o = m.before in
      let is_open : open_desk s ≡ Ok o.desk = m.is_open in
      let act : request_act old from (requests.Finish id token outcome) s ≡ Ok (asks (AskPropose c) (Some m.after.desk)) = finish_is o is_open
      ∙ ap (λ (r : Answered (Unit {0})). act_taken (finish_act (refuses old.raft.me from (asked.Finish id token) (Some o.desk)) s.raft c r)) m.answers
      ∙ ap (λ (r : Option Refusal). act_taken (proposes_at m.after c (refuses old.raft.me from (asked.Finish id token) (Some o.desk)) r)) p.admitted in
      subst (λ (act : Result Act Refusal). DoesAct old.raft.size old.raft.me s act new before after) (sym act)
      (does_proposed old.raft.size old.raft.me s new before after c [] (Some m.after.desk) p.leads p.admitted m.server (nothing_sent before after nothing) (ap (λ (x : Outbox). x.work) nothing))

  -- the log refuses it
  finish_refused : (e : Refusal) → HasOpenDesk s → RefinesServer old s → HasPair id token old.desk → WhyNotProposed s.raft (commands.EvalStatus id (change_of outcome)) e → e ≢ refusals.NoMemory → RefinesServer new s → after.work ≡ before.work →
      SendsOne before.frames after.frames (BetweenServers old.raft.me from (Answers (Refused (asked.Finish id token) (reason_of e)))) → DoesAct old.raft.size old.raft.me s (request_act old from (requests.Finish id token outcome) s) new before after
  finish_refused e h is pair why other server work sent =
      let o = open_of old.desk (subst (λ (d : Option Desk). is_some d ≡ true) (sym is.desk) h.is_open) in
      let out : on_outstanding id token o.0 ≡ Ok pair.wait = rw o.1 at pair.is in
      let refusing = refuses old.raft.me from (asked.Finish id token) (Some o.0.desk) in
      let c = commands.EvalStatus id (change_of outcome) in
      let acked = with_broker (with_ack id o.0.desk.broker) o.0 in
      let act : request_act old from (requests.Finish id token outcome) s ≡ Ok (refusing e) = finish_is o.0 (open_at old s is o.0 h.leads o.1)
      ∙ ap (λ (r : Result ℕ Refusal). act_taken (finish_act refusing s.raft c (once_outstanding acked r))) out
      ∙ ap (λ (r : Option Refusal). act_taken (proposes_at acked c refusing r)) (refused_why s.raft c e h.leads other why) in
      subst (λ (act : Result Act Refusal). DoesAct old.raft.size old.raft.me s act new before after) (sym act)
      (does_alone old.raft.size old.raft.me s new before after (BetweenServers old.raft.me from (Answers (Refused (asked.Finish id token) (reason_of e))) ∷ []) (Some o.0.desk) []
      (subst (λ (d : Option Desk). RefinesServer new (record s { desk = d })) (desk_at old s is o.0 o.1) server) sent (work ∙ sym (append-nil before.work)))

pub finish_declined : (old new : ServerView) (before after : Outbox) (from : ℕ) (id : EvalId) (token : Token) (outcome : EvalOutcome) (e : Refusal) (r : Result (Unit {0}) NoMemory) → EachServer old (λ s. HasOpenDesk s) → HasPair id token old.desk →
    EachServer old (λ s. WhyNotProposed s.raft (commands.EvalStatus id (change_of outcome)) e) → e ≢ refusals.NoMemory → SameServer old new → after.work ≡ before.work →
    OnOk r (SendsOne before.frames after.frames (BetweenServers old.raft.me from (Answers (Refused (asked.Finish id token) (reason_of e))))) → OnOk r (EachDoes old (request_act old from (requests.Finish id token outcome)) new before after)
finish_declined old new before after from id token outcome e (Ok u) h pair why other same work sent =
    λ s is. finish_refused old new before after s from id token outcome e (h s is) is pair (why s is) other (same_is old new s same is) work sent
finish_declined old new before after from id token outcome e (Err x) h pair why other same work sent = tt

-- ---- Submit

module _ (old new : ServerView) (before after : Outbox) (s : Server) (from : ℕ) (p : Plan) where
  submit_is : (o : OpenDesk) → open_desk s ≡ Ok o.desk → s.desk ≡ Some o.desk → request_act old from (requests.Submit p) s ≡ Ok (submit_act old.raft.me from p o (on_submit from (applied_state s.raft) p o))
  submit_is o is_open has = rw (is_open, has) (ap act_taken (submits_by_submit old.raft.me from (applied_state s.raft) p o))

  pub submit_moved : Moves (on_submit from (applied_state s.raft) p) s tt new → after ≡ before →
      DoesAct old.raft.size old.raft.me s (request_act old from (requests.Submit p) s) new before after
  submit_moved m nothing =
      let o = m.before in
      let act : request_act old from (requests.Submit p) s ≡ Ok (rests (Some m.after.desk)) = submit_is o m.is_open m.was
      ∙ ap (λ (r : Answered (Unit {0})). act_taken (submit_act old.raft.me from p o r)) m.answers in
      subst (λ (act : Result Act Refusal). DoesAct old.raft.size old.raft.me s act new before after) (sym act)
      (does_nothing old.raft.size old.raft.me s new before after (Some m.after.desk) m.server nothing)

  -- the desk refuses the plan
  submit_refused : (e : Refusal) → Holds (on_submit from (applied_state s.raft) p) s e → RefinesServer new s → after.work ≡ before.work →
      SendsOne before.frames after.frames (BetweenServers old.raft.me from (Answers (Refused (asked.Submit p.eval p.token) (reason_of e)))) → DoesAct old.raft.size old.raft.me s (request_act old from (requests.Submit p) s) new before after
  submit_refused e k server work sent =
      let o = k.desk in
      let act : request_act old from (requests.Submit p) s ≡ Ok (refuses old.raft.me from (asked.Submit p.eval p.token) (Some o.desk) e) = submit_is o k.is_open k.was
      ∙ ap (λ (r : Answered (Unit {0})). act_taken (submit_act old.raft.me from p o r)) k.answers in
      subst (λ (act : Result Act Refusal). DoesAct old.raft.size old.raft.me s act new before after) (sym act)
      (does_alone old.raft.size old.raft.me s new before after (BetweenServers old.raft.me from (Answers (Refused (asked.Submit p.eval p.token) (reason_of e))) ∷ []) (Some o.desk) []
      (subst (λ (d : Option Desk). RefinesServer new (record s { desk = d })) k.was server) sent (work ∙ sym (append-nil before.work)))

pub submit_declined : (old new : ServerView) (before after : Outbox) (from : ℕ) (p : Plan) (e : Refusal) (r : Result (Unit {0}) NoMemory) → EachServer old (λ s. HasOpenDesk s) →
    EachServer old (λ s. at_open (on_submit from (applied_state s.raft) p) old.desk ≡ Err e) → SameServer old new → after.work ≡ before.work →
    OnOk r (SendsOne before.frames after.frames (BetweenServers old.raft.me from (Answers (Refused (asked.Submit p.eval p.token) (reason_of e))))) → OnOk r (EachDoes old (request_act old from (requests.Submit p)) new before after)
submit_declined old new before after from p e (Err x) h call same work sent = tt
submit_declined old new before after from p e (Ok u) h call same work sent =
    λ s is. submit_refused old new before after s from p e (holds (on_submit from (applied_state s.raft) p) s old e (h s is) is (call s is)) (same_is old new s same is) work sent

-- ---- the same of each server that a value is

module _ (old new : ServerView) (before after : Outbox) (from : ℕ) (h : EachServer old (λ s. HasOpenDesk s)) (same : SameRaft old.raft new.raft) where
  pub take_sent : (wait : ℕ) (given : Option Delivery) (r : Result (Unit {0}) NoMemory) → EachServer old (λ s. wait ≡ length s.raft.log) → at_open (on_deliver wait) old.desk ≡ Ok (given, new.desk) → after.work ≡ before.work →
      OnOk r (SendsOne before.frames after.frames (BetweenServers old.raft.me from (Answers (Delivered given)))) → OnOk r (EachDoes old (request_act old from requests.Take) new before after)
  take_sent wait given (Err x) known call work sent = tt
  take_sent wait given (Ok u) known call work sent = λ s is.
      let at = subst (λ (n : ℕ). at_open (on_deliver n) old.desk ≡ Ok (given, new.desk)) (known s is) call in
      take_moved old new before after s from given (moves (on_deliver (length s.raft.log)) (deliver_keeps (length s.raft.log)) s old new given (h s is).leads is same at) sent work

  pub nack_done : (id : EvalId) (token : Token) → at_open (on_nack id token) old.desk ≡ Ok (tt, new.desk) → after ≡ before → EachDoes old (request_act old from (requests.Nack id token)) new before after
  nack_done id token call nothing s is = nack_moved old new before after s from id token (moves (on_nack id token) (nack_keeps id token) s old new tt (h s is).leads is same call) nothing

  pub submit_done : (p : Plan) → EachServer old (λ s. at_open (on_submit from (applied_state s.raft) p) old.desk ≡ Ok (tt, new.desk)) → after ≡ before → EachDoes old (request_act old from (requests.Submit p)) new before after
  submit_done p call nothing s is = submit_moved old new before after s from p (moves (on_submit from (applied_state s.raft) p) (submit_keeps from (applied_state s.raft) p) s old new tt (h s is).leads is same (call s is)) nothing

-- ---- what its own workers ask of a server

asks_is : (old : ServerView) (to : ℕ) (request : WorkerRequest) (s : Server) → act_of old (asks_of to request) s ≡ asks_server old.raft.size old.raft.me s to request
asks_is old to requests.Take s = refl
asks_is old to (requests.Submit p) s = refl
asks_is old to (requests.Finish id token outcome) s = refl
asks_is old to (requests.Nack id token) s = refl

pub asks_taken : (old : ServerView) (to : ℕ) (request : WorkerRequest) (before after : Outbox) → to < old.raft.size → SendsOne before.frames after.frames (BetweenServers old.raft.me to (Asks request)) → after.work ≡ before.work →
    EachDoes old (act_of old (asks_of to request)) old before after
asks_taken old to request before after below sent work s is =
    let within : nat_lt to old.raft.size ≡ true = lt-ltb to old.raft.size below in
    let server : asks_server old.raft.size old.raft.me s to request ≡ Ok (sends (BetweenServers old.raft.me to (Asks request) ∷ []) s.desk) = rw within refl in
    subst (λ (act : Result Act Refusal). DoesAct old.raft.size old.raft.me s act old before after) (sym (asks_is old to request s ∙ server))
    (does_alone old.raft.size old.raft.me s old before after (BetweenServers old.raft.me to (Asks request) ∷ []) s.desk [] is sent (work ∙ sym (append-nil before.work)))
