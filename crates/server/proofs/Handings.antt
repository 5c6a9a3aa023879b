-- What is handed in, by the parts of a step.
use Rattle.std.proofs.Common.{◌≡◌, ◌≢◌, ℕ, Bool, true, false, Option, Some, None, Result, Ok, Err, List, length, take, refl, sym, ap, subst, ◌∙◌, if◌then◌else◌}
use Rattle.std.proofs.Math.Seq.{take-length}
use Rattle.std.specs.Prelude.{OnOk, OnErr, IfErr, ◌&&◌, nat_lt}
use Rattle.rows.specs.declared.actor.Actor.{Actor}
use Rattle.rows.specs.declared.actor.Actor.TheVariants as actors
use Rattle.rows.specs.declared.command.Command.{Command}
use Rattle.rows.specs.declared.refusal.Refusal.{Refusal}
use Rattle.rows.specs.declared.refusal.Refusal.TheVariants as refusals
use Rattle.rows.specs.declared.worker.WorkerRequest.{WorkerRequest}
use Rattle.rows.specs.declared.worker.WorkerRequest.TheVariants as requests
use Rattle.rows.specs.declared.worker.WorkerResponse.{WorkerResponse}
use Rattle.rows.specs.declared.worker.WorkerResponse.TheVariants as responses
use Rattle.wire.specs.Messages.{Message as WireMessage, kind_of, request_kind, response_kind, is_of_log, may_go}
use Rattle.wire.specs.Frames.{MessageFits, message_text, message_at}
use Rattle.wire.specs.declared.body.Body.{Body}
use Rattle.wire.specs.declared.body.Body.TheVariants as bodies
use Rattle.wire.specs.declared.kind.Kind.{Kind}
use Rattle.wire.specs.declared.kind.Kind.TheVariants as kinds
use Rattle.raft_model.specs.Messages.{Message, to_others}
use Rattle.raft_model.specs.Logs.{MAX}
use Rattle.raft_model.specs.Rafts.{RaftTurn, is_up, is_leader, crashed, silent, election_started, vote_request_to}
use Rattle.raft_model.specs.Steps as raft_steps
use Rattle.raft_core.specs.Frames.{Means}
use Rattle.raft_core.specs.Inputs.{Own}
use Rattle.raft_core.specs.StoredParts.{KeepsLog}
use Rattle.raft_core.specs.Refusals.{misdirected, message_fault, message_refusal, refusal_by, IsRefused, HidesNothing, IsMessageRefused, Stays, MessageStays}
use Rattle.fsm_model.specs.Words.{State}
use Rattle.fsm_model.specs.ClusterMachine.{cluster_spec}
use Rattle.fsm_model.proofs.ClusterMachine.{cluster_lawful}
use Rattle.group_model.specs.Messages.{GroupMessage, OfLog, Service, ServiceMessage}
use Rattle.group_model.specs.Inputs.{Input, Timeout, AskTimeout, Act, asks}
use Rattle.group_model.specs.Servers.{Server, acts, wakes, logged, done, step}
use Rattle.group_frames.specs.GroupFrames.{service_between, service_of, IsGroupFrame}
use Rattle.group_frames.proofs.OneMessage.{one_text}
use Rattle.server.specs.declared.server.Outbox.{Outbox}
use Rattle.server.specs.ServerViews.{ServerView, RefinesServer, SameServer}
use Rattle.group_inputs.specs.Handings.{Handing, FrameBytes, OwnInput}
use Rattle.server.specs.Steps.{TakesTurn, TakesHanding}
use Rattle.server.specs.Refusals.{refusal_in, wrong_address, read_refusal, bytes_refusal, handing_refusal, CanStand, OutOfMemoryMayEnd, IsHandingRefused, HandingRefusalLeaves, HandingStays}
use Rattle.server.specs.Inner.Acts.{EachServer, EachDoes, act_of, OutOfMemoryTurn, DoesNothing, DeclinesOwn}
use Rattle.server.specs.Inner.LogSteps.{DeskAfterRefusal, TakesLogMessage, TakesAsk, MeansGroup, TakesRead, DeclinesRead, IsRead, LosesIn, DeclinesHanding, IsTaken}
use Rattle.server.specs.Keeping.{MayKeepHanding, StandsLast}
use Rattle.server.proofs.Keeping.{on_ok}
use Rattle.server.proofs.Servers.{up_of}

abbrev Answer : Type 0
Answer = Result (Unit {0}) Refusal

-- ---- inputs of its own, of one that is up

own_step : (n me : ℕ) (s : Server) (input : Input) → is_up s.raft.mode ≡ true → step n me s input ≡ done n me s (acts n me s input)
own_step n me s input up = ap (λ b. done n me s (if b then acts n me s input else wakes s input)) up

module _ (old new : ServerView) (before after : Outbox) (h : Handing) (input : Input) (is : h ≡ OwnInput input) (up : is_up old.raft.server.mode ≡ true) where
  at : (s : Server) → RefinesServer old s → step old.raft.size old.raft.me s input ≡ done old.raft.size old.raft.me s (act_of old input s)
  at s is_of = own_step old.raft.size old.raft.me s input (up_of old s is_of up)

  pub own_taken : (r : Answer) → OnOk r (EachDoes old (act_of old input) new before after) → OnOk r (EachServer old (λ s. TakesHanding old s h new before after))
  own_taken (Ok u) does = λ s is_of.
      subst (λ x. TakesHanding old s x new before after) (sym is) (subst (λ q. TakesTurn q new before after) (sym (at s is_of)) (does s is_of))
  own_taken (Err cause) does = tt

  pub own_admitted : (r : Answer) → OnOk r (EachDoes old (act_of old input) new before after) → OnOk r (EachServer old (λ s. handing_refusal old.raft.size old.raft.me s h ≡ None))
  own_admitted (Ok u) does = λ s is_of. ap (handing_refusal old.raft.size old.raft.me s) is ∙ ap refusal_in (at s is_of ∙ (does s is_of).is)
  own_admitted (Err cause) does = tt

  declined : (EachServer old (λ s. OutOfMemoryMayEnd old.raft.size s input) × OutOfMemoryTurn old new before after → LosesIn old (OwnInput input) new before after) → (cause : Refusal) → DeclinesOwn old input cause new before after → DeclinesHanding old (OwnInput input) cause new before after
  declined loses refusals.NoMemory d = loses d
  declined loses cause d = (λ s is_of. ap refusal_in (at s is_of ∙ d.0 s is_of), d.1)

  pub own_declined : (EachServer old (λ s. OutOfMemoryMayEnd old.raft.size s input) × OutOfMemoryTurn old new before after → LosesIn old (OwnInput input) new before after) → (r : Answer) → IfErr r (λ cause. DeclinesOwn old input cause new before after) → IfErr r (λ cause. DeclinesHanding old h cause new before after)
  own_declined loses (Ok u) d = tt
  own_declined loses (Err cause) d = subst (λ x. DeclinesHanding old x cause new before after) (sym is) (declined loses cause d)

-- turns that send nothing
module _ (old new : ServerView) (h : Handing) (input : Input) (is : h ≡ OwnInput input) (up : is_up old.raft.server.mode ≡ true) (o : Outbox) where
  silent_taken : (r : Answer) → OnOk r ((out : Outbox) → EachDoes old (act_of old input) new out out) → OnOk r (EachServer old (λ s. TakesHanding old s h new o o))
  silent_taken (Ok u) d = own_taken old new o o h input is up (Ok u) (d o)
  silent_taken (Err cause) d = tt

  silent_admitted : (r : Answer) → OnOk r ((out : Outbox) → EachDoes old (act_of old input) new out out) → OnOk r (EachServer old (λ s. handing_refusal old.raft.size old.raft.me s h ≡ None))
  silent_admitted (Ok u) d = own_admitted old new o o h input is up (Ok u) (d o)
  silent_admitted (Err cause) d = tt

  silent_declined : (EachServer old (λ s. OutOfMemoryMayEnd old.raft.size s input) × OutOfMemoryTurn old new o o → LosesIn old (OwnInput input) new o o) → (r : Answer) → IfErr r (λ cause. (out : Outbox) → DeclinesOwn old input cause new out out) → IfErr r (λ cause. DeclinesHanding old h cause new o o)
  silent_declined loses (Ok u) d = tt
  silent_declined loses (Err cause) d = own_declined old new o o h input is up loses (Err cause) (d o)

  pub silent_turn : (new.raft.me ≡ old.raft.me) × (new.raft.size ≡ old.raft.size) → MayKeepHanding (OwnInput input) old.raft new.raft → StandsLast (OwnInput input) new
      → (EachServer old (λ s. OutOfMemoryMayEnd old.raft.size s input) × OutOfMemoryTurn old new o o → LosesIn old (OwnInput input) new o o) → (r : Answer)
      → OnOk r ((out : Outbox) → EachDoes old (act_of old input) new out out) → IfErr r (λ cause. (out : Outbox) → DeclinesOwn old input cause new out out)
      → IsTaken old h r new o o
  silent_turn same keeps stands loses r does stopped = record {
    same = same;
    taken = silent_taken r does;
    admitted = silent_admitted r does;
    keeps = on_ok r (subst (λ x. MayKeepHanding x old.raft new.raft) (sym is) keeps);
    stands = on_ok r (subst (λ x. StandsLast x new) (sym is) stands);
    stopped = silent_declined loses r stopped;
  }

-- ---- messages that were read

server_sends : (n me : ℕ) (k : Kind) (from to : Actor) → is_of_log k ≡ true → may_go k from to ≡ true → misdirected n me from to ≡ wrong_address n me from to
server_sends n me k (actors.Server i) to log goes = refl
server_sends n me kinds.VoteRequest (actors.Client c) to log goes = absurd (cc)
server_sends n me kinds.VoteReply (actors.Client c) to log goes = absurd (cc)
server_sends n me kinds.Append (actors.Client c) to log goes = absurd (cc)
server_sends n me kinds.AppendReply (actors.Client c) to log goes = absurd (cc)
server_sends n me kinds.Install (actors.Client c) to log goes = absurd (cc)
server_sends n me kinds.InstallReply (actors.Client c) to log goes = absurd (cc)
server_sends n me k (actors.Client c) to log goes = absurd (cc)

no_true : false ≡ true → ⊥
no_true h = cc

no_some : (y : ServiceMessage) → (let x : Option ServiceMessage = None in x ≡ Some y) → ⊥
no_some y h = cc

no_request : (r : WorkerRequest) → is_of_log (request_kind r) ≡ true → ⊥
no_request requests.Take h = no_true h
no_request (requests.Submit plan) h = no_true h
no_request (requests.Finish eval token outcome) h = no_true h
no_request (requests.Nack eval token) h = no_true h

no_response : (r : WorkerResponse) → is_of_log (response_kind r) ≡ true → ⊥
no_response (responses.Delivered given) h = no_true h
no_response (responses.PlanResult told) h = no_true h
no_response (responses.Refused asked reason) h = no_true h

-- a message of the log is none beside it
no_service : (from to : Actor) (body : Body State Command) (y : ServiceMessage) → is_of_log (kind_of body) ≡ true → service_between from to body ≡ Some y → ⊥
no_service from to (bodies.Request r) y log is = no_request r log
no_service from to (bodies.Response r) y log is = no_response r log
no_service from to (bodies.Register class size) y log is = no_true log
no_service from to bodies.Heartbeat y log is = no_true log
no_service from to bodies.Pull y log is = no_true log
no_service from to (bodies.List index rows) y log is = no_true log
no_service from to (bodies.Report items) y log is = no_true log
no_service from to (bodies.Told kind reason) y log is = no_true log
no_service (actors.Server i) (actors.Server j) (bodies.VoteRequest v) y log is = no_some y is
no_service (actors.Server i) (actors.Client d) (bodies.VoteRequest v) y log is = no_some y is
no_service (actors.Client c) (actors.Server j) (bodies.VoteRequest v) y log is = no_some y is
no_service (actors.Client c) (actors.Client d) (bodies.VoteRequest v) y log is = no_some y is
no_service (actors.Server i) (actors.Server j) (bodies.VoteReply v) y log is = no_some y is
no_service (actors.Server i) (actors.Client d) (bodies.VoteReply v) y log is = no_some y is
no_service (actors.Client c) (actors.Server j) (bodies.VoteReply v) y log is = no_some y is
no_service (actors.Client c) (actors.Client d) (bodies.VoteReply v) y log is = no_some y is
no_service (actors.Server i) (actors.Server j) (bodies.Append a) y log is = no_some y is
no_service (actors.Server i) (actors.Client d) (bodies.Append a) y log is = no_some y is
no_service (actors.Client c) (actors.Server j) (bodies.Append a) y log is = no_some y is
no_service (actors.Client c) (actors.Client d) (bodies.Append a) y log is = no_some y is
no_service (actors.Server i) (actors.Server j) (bodies.AppendReply r) y log is = no_some y is
no_service (actors.Server i) (actors.Client d) (bodies.AppendReply r) y log is = no_some y is
no_service (actors.Client c) (actors.Server j) (bodies.AppendReply r) y log is = no_some y is
no_service (actors.Client c) (actors.Client d) (bodies.AppendReply r) y log is = no_some y is
no_service (actors.Server i) (actors.Server j) (bodies.Install v) y log is = no_some y is
no_service (actors.Server i) (actors.Client d) (bodies.Install v) y log is = no_some y is
no_service (actors.Client c) (actors.Server j) (bodies.Install v) y log is = no_some y is
no_service (actors.Client c) (actors.Client d) (bodies.Install v) y log is = no_some y is
no_service (actors.Server i) (actors.Server j) (bodies.InstallReply r) y log is = no_some y is
no_service (actors.Server i) (actors.Client d) (bodies.InstallReply r) y log is = no_some y is
no_service (actors.Client c) (actors.Server j) (bodies.InstallReply r) y log is = no_some y is
no_service (actors.Client c) (actors.Client d) (bodies.InstallReply r) y log is = no_some y is

module _ (old new : ServerView) (before after : Outbox) (read : WireMessage State Command) (up : is_up old.raft.server.mode ≡ true) (log : is_of_log (kind_of read.body) ≡ true) (goes : may_go (kind_of read.body) read.from read.to ≡ true) where
  log_refusal : (s : Server) → RefinesServer old s → message_refusal old.raft.size old.raft.me s.raft read ≡ wrong_address old.raft.size old.raft.me read.from read.to
  log_refusal s is =
      ap (λ b. if b then message_fault old.raft.size old.raft.me read else Some refusals.Down) (up_of old s is up)
      ∙ (ap (λ b. if b then misdirected old.raft.size old.raft.me read.from read.to else Some (refusals.Frame 1)) log
      ∙ server_sends old.raft.size old.raft.me (kind_of read.body) read.from read.to log goes)

  log_read : ((said : Message Command) → Means cluster_spec read said → TakesLogMessage old said new before after) → EachServer old (λ s. TakesRead old s read new before after)
  log_read heard s is (OfLog said) means = heard said means s is
  log_read heard s is (Service message) means = absurd (no_service read.from read.to read.body message log means)

  log_taken : (r : Answer) → OnOk r ((said : Message Command) → Means cluster_spec read said → TakesLogMessage old said new before after) → OnOk r (EachServer old (λ s. TakesRead old s read new before after))
  log_taken (Ok u) heard = log_read heard
  log_taken (Err cause) heard = tt

  log_admitted : (r : Answer) → OnOk r (EachServer old (λ s. message_refusal old.raft.size old.raft.me s.raft read ≡ None)) → OnOk r (EachServer old (λ s. wrong_address old.raft.size old.raft.me read.from read.to ≡ None))
  log_admitted (Ok u) none = λ s is. sym (log_refusal s is) ∙ none s is
  log_admitted (Err cause) none = tt

  log_declined : (new.raft.me ≡ old.raft.me) → (new.raft.size ≡ old.raft.size) → (cause : Refusal) → EachServer old (λ s. IsMessageRefused old.raft.size old.raft.me s.raft read cause) → MessageStays cause old.raft new.raft → DeskAfterRefusal cause old.desk new.desk → after ≡ before → DeclinesRead old read cause new before after
  log_declined me size refusals.NoMemory is left desk unsent = record {
    me = me;
    size = size;
    base = left.1;
    stored = ap crashed left.0;
    front = ap (λ (o : Outbox). take (length before.frames) o.frames) unsent ∙ take-length before.frames;
    work = ap (λ (o : Outbox). o.work) unsent;
  }
  log_declined me size cause is left desk unsent = (
    λ s is_of. sym (log_refusal s is_of) ∙ is s is_of,
    record { same = record { raft = record { me = me; size = size; base = ap (λ v. v.base) left; server = ap (λ v. v.server) left }; desk = desk }; nothing = unsent },
  )

  log_stops : (new.raft.me ≡ old.raft.me) → (new.raft.size ≡ old.raft.size) → (r : Answer)
      → IfErr r (λ cause. EachServer old (λ s. IsMessageRefused old.raft.size old.raft.me s.raft read cause))
      → IfErr r (λ cause. MessageStays cause old.raft new.raft)
      → IfErr r (λ cause. DeskAfterRefusal cause old.desk new.desk)
      → OnErr r (after ≡ before)
      → IfErr r (λ cause. DeclinesRead old read cause new before after)
  log_stops me size (Ok u) is left desk unsent = tt
  log_stops me size (Err cause) is left desk unsent = log_declined me size cause is left desk unsent

  pub log_is_read : (r : Answer)
      → (new.raft.me ≡ old.raft.me) × (new.raft.size ≡ old.raft.size)
      → OnOk r ((said : Message Command) → Means cluster_spec read said → TakesLogMessage old said new before after)
      → OnOk r (EachServer old (λ s. message_refusal old.raft.size old.raft.me s.raft read ≡ None))
      → OnOk r (new.raft.base.index ≡ old.raft.base.index → KeepsLog old.raft new.raft)
      → IfErr r (λ cause. EachServer old (λ s. IsMessageRefused old.raft.size old.raft.me s.raft read cause))
      → IfErr r (λ cause. MessageStays cause old.raft new.raft)
      → IfErr r (λ cause. DeskAfterRefusal cause old.desk new.desk)
      → OnErr r (after ≡ before)
      → IsRead old read r new before after
  log_is_read r same heard none keeps is left desk unsent = record {
    same = same;
    taken = log_taken r heard;
    admitted = log_admitted r none;
    keeps = keeps;
    stopped = log_stops same.0 same.1 r is left desk unsent;
  }

-- ---- a timeout

-- what the log refuses, the server does
by_log : (s : Server) (act : Act) (r : Result (RaftTurn Command) Refusal) (cause : Refusal) → refusal_by r ≡ Some cause → refusal_in (logged s act r) ≡ Some cause
by_log s act (Ok turn) cause h = absurd (cc)
by_log s act (Err e) cause h = h

-- one that is not refused had room
room_by : (up leads index_left : Bool) (a b c : Result (RaftTurn Command) Refusal) (e : Refusal) → up ≡ true → leads ≡ false → refusal_by (if up then (if leads then a else if index_left then b else Err e) else c) ≡ None → index_left ≡ true
room_by true false true a b c e is_up follows h = refl
room_by true false false a b c e is_up follows h = absurd (cc)
room_by true true index_left a b c e is_up follows h = absurd (cc)
room_by false leads index_left a b c e is_up follows h = absurd (cc)

module _ (n me : ℕ) (s : Server) (up : is_up s.raft.mode ≡ true) where
  abbrev by : Result (RaftTurn Command) Refusal
  by = raft_steps.step cluster_spec n me s.raft raft_steps.Timeout

  can_stand : is_leader s.raft.mode ≡ false → refusal_by by ≡ None → CanStand s
  can_stand follows none = record {
    up = up;
    follows = follows;
    index_left = room_by (is_up s.raft.mode) (is_leader s.raft.mode) (nat_lt s.raft.term MAX && nat_lt (length s.raft.log) MAX)
        (Ok (silent s.raft)) (Ok (record { server = election_started n me s.raft; sent = to_others me (vote_request_to me (election_started n me s.raft)) n }))
        (raft_steps.wakes s.raft raft_steps.Timeout) refusals.Exhausted up follows none;
  }

  timeout_refused : (cause : Refusal) → refusal_by by ≡ Some cause → handing_refusal n me s (OwnInput Timeout) ≡ Some cause
  timeout_refused cause is = ap refusal_in (own_step n me s Timeout up) ∙ by_log s (asks AskTimeout s.desk) by cause is

module _ (old new : ServerView) (before after : Outbox) (up : is_up old.raft.server.mode ≡ true) where
  timeout_declined : (new.raft.me ≡ old.raft.me) → (new.raft.size ≡ old.raft.size) → (cause : Refusal)
      → EachServer old (λ s. IsRefused cluster_spec old.raft.size old.raft.me s.raft (Own raft_steps.Timeout) cause)
      → EachServer old (λ s. HidesNothing cluster_spec old.raft.size old.raft.me s.raft (Own raft_steps.Timeout) cause)
      → Stays (Own raft_steps.Timeout) cause old.raft new.raft
      → DeskAfterRefusal cause old.desk new.desk → after ≡ before
      → DeclinesHanding old (OwnInput Timeout) cause new before after
  timeout_declined me size refusals.NoMemory may hides left desk unsent = (
    λ s is. can_stand old.raft.size old.raft.me s (up_of old s is up) (may s is).1 (hides s is),
    record {
      me = me;
      size = size;
      base = left.1;
      stored = ap crashed left.0;
      front = ap (λ (o : Outbox). take (length before.frames) o.frames) unsent ∙ take-length before.frames;
      work = ap (λ (o : Outbox). o.work) unsent;
    },
  )
  timeout_declined me size cause is hides left desk unsent = (
    λ s is_of. timeout_refused old.raft.size old.raft.me s (up_of old s is_of up) cause (is s is_of),
    record { same = record { raft = record { me = me; size = size; base = ap (λ v. v.base) left; server = ap (λ v. v.server) left }; desk = desk }; nothing = unsent },
  )

  timeout_stopped : (new.raft.me ≡ old.raft.me) → (new.raft.size ≡ old.raft.size) → (r : Answer)
      → IfErr r (λ cause. EachServer old (λ s. IsRefused cluster_spec old.raft.size old.raft.me s.raft (Own raft_steps.Timeout) cause))
      → IfErr r (λ cause. EachServer old (λ s. HidesNothing cluster_spec old.raft.size old.raft.me s.raft (Own raft_steps.Timeout) cause))
      → IfErr r (λ cause. Stays (Own raft_steps.Timeout) cause old.raft new.raft)
      → IfErr r (λ cause. DeskAfterRefusal cause old.desk new.desk)
      → OnErr r (after ≡ before)
      → IfErr r (λ cause. DeclinesHanding old (OwnInput Timeout) cause new before after)
  timeout_stopped me size (Ok u) is hides left desk unsent = tt
  timeout_stopped me size (Err cause) is hides left desk unsent = timeout_declined me size cause is hides left desk unsent

  pub timeout_taken : (r : Answer)
      → (new.raft.me ≡ old.raft.me) × (new.raft.size ≡ old.raft.size)
      → OnOk r (TakesAsk old (Some AskTimeout) new before after)
      → OnOk r (MayKeepHanding (OwnInput Timeout) old.raft new.raft)
      → IfErr r (λ cause. EachServer old (λ s. IsRefused cluster_spec old.raft.size old.raft.me s.raft (Own raft_steps.Timeout) cause))
      → IfErr r (λ cause. EachServer old (λ s. HidesNothing cluster_spec old.raft.size old.raft.me s.raft (Own raft_steps.Timeout) cause))
      → IfErr r (λ cause. Stays (Own raft_steps.Timeout) cause old.raft new.raft)
      → IfErr r (λ cause. DeskAfterRefusal cause old.desk new.desk)
      → OnErr r (after ≡ before)
      → IsTaken old (OwnInput Timeout) r new before after
  timeout_taken r same does keeps is hides left desk unsent = record {
    same = same;
    taken = own_taken old new before after (OwnInput Timeout) Timeout refl up r does;
    admitted = own_admitted old new before after (OwnInput Timeout) Timeout refl up r does;
    keeps = keeps;
    stands = on_ok r tt;
    stopped = timeout_stopped same.0 same.1 r is hides left desk unsent;
  }

-- ---- what a refusal leaves

module _ (old new : ServerView) (h : Handing) (before after : Outbox) where
  -- one that is not want of memory
  pub declined_parts : (cause : Refusal) → cause ≢ refusals.NoMemory → DeclinesHanding old h cause new before after → EachServer old (λ s. handing_refusal old.raft.size old.raft.me s h ≡ Some cause) × DoesNothing old new before after
  declined_parts refusals.NoMemory other d = absurd (other refl)
  declined_parts cause other d = d

pub refused_of : (n me : ℕ) (s : Server) (h : Handing) (cause : Refusal) → cause ≢ refusals.NoMemory → handing_refusal n me s h ≡ Some cause → IsHandingRefused n me s h cause
refused_of n me s h refusals.NoMemory other is = absurd (other refl)
refused_of n me s h cause other is = is

pub left_of : (old new : ServerView) (s : Server) (h : Handing) (cause : Refusal) → cause ≢ refusals.NoMemory → SameServer old new → HandingRefusalLeaves old s h cause new
left_of old new s h refusals.NoMemory other is = absurd (other refl)
left_of old new s h cause other is = is

pub stays_of : (old new : ServerView) (h : Handing) (cause : Refusal) → cause ≢ refusals.NoMemory → SameServer old new → HandingStays old h cause new
stays_of old new h refusals.NoMemory other is = absurd (other refl)
stays_of old new h cause other is = is

-- ---- a frame that was read

module _ (old new : ServerView) (before after : Outbox) (bytes : List ℕ) (read : WireMessage State Command) (fits : MessageFits cluster_spec read) (text : bytes ≡ message_text cluster_spec read) where
  means : (x : GroupMessage) → IsGroupFrame cluster_spec bytes x → MeansGroup read x
  means (OfLog said) is = subst (λ (r : WireMessage State Command). Means cluster_spec r said) (one_text cluster_spec cluster_lawful is.read read is.fits fits (sym is.text ∙ text)) is.means
  means (Service message) is = subst (λ (r : WireMessage State Command). service_of r ≡ Some message) (one_text cluster_spec cluster_lawful is.read read is.fits fits (sym is.text ∙ text)) is.means

  read_taken : (r : Answer) → OnOk r (EachServer old (λ s. TakesRead old s read new before after)) → OnOk r (EachServer old (λ s. TakesHanding old s (FrameBytes bytes) new before after))
  read_taken (Ok u) h = λ s is_of x is. h s is_of x (means x is)
  read_taken (Err cause) h = tt

  module _ (up : is_up old.raft.server.mode ≡ true) (found : message_at cluster_spec bytes ≡ Ok read) where
    refusal_is : (s : Server) → RefinesServer old s → handing_refusal old.raft.size old.raft.me s (FrameBytes bytes) ≡ wrong_address old.raft.size old.raft.me read.from read.to
    refusal_is s is = ap (λ b. if b then bytes_refusal old.raft.size old.raft.me bytes else Some refusals.Down) (up_of old s is up) ∙ ap (read_refusal old.raft.size old.raft.me) found

    read_admitted : (r : Answer) → OnOk r (EachServer old (λ s. wrong_address old.raft.size old.raft.me read.from read.to ≡ None)) → OnOk r (EachServer old (λ s. handing_refusal old.raft.size old.raft.me s (FrameBytes bytes) ≡ None))
    read_admitted (Ok u) none = λ s is. refusal_is s is ∙ none s is
    read_admitted (Err cause) none = tt

    read_declined : (cause : Refusal) → DeclinesRead old read cause new before after → DeclinesHanding old (FrameBytes bytes) cause new before after
    read_declined refusals.NoMemory d = (λ s is. up_of old s is up, d)
    read_declined cause d = (λ s is. refusal_is s is ∙ d.0 s is, d.1)

    read_stopped : (r : Answer) → IfErr r (λ cause. DeclinesRead old read cause new before after) → IfErr r (λ cause. DeclinesHanding old (FrameBytes bytes) cause new before after)
    read_stopped (Ok u) d = tt
    read_stopped (Err cause) d = read_declined cause d

    pub is_taken : (r : Answer) → IsRead old read r new before after → IsTaken old (FrameBytes bytes) r new before after
    is_taken r got = record {
      same = got.same;
      taken = read_taken r got.taken;
      admitted = read_admitted r got.admitted;
      keeps = got.keeps;
      stands = on_ok r tt;
      stopped = read_stopped r got.stopped;
    }
