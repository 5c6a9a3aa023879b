-- A cell's turn: the actor stays where its notes lead it.
use Rattle.std.proofs.Common.{◌≡◌, ◌⊎◌, ℕ, List, [], ◌∷◌, ◌++◌, take, refl, sym, ap, ◌∙◌, subst, inl, inr}
use Rattle.std.specs.Prelude.{reverse, map, Result, Ok, Err, IfOk, IfErr}
use Rattle.rows.specs.declared.refusal.Refusal.{Refusal}
use Rattle.rows.specs.declared.refusal.Refusal.TheVariants as refusals
use Rattle.std.proofs.lemmas.List.{reverse-append}
use Rattle.rows.specs.declared.actor.Actor.{Actor}
use Rattle.rows.specs.declared.actor.Actor.TheVariants as actors
use Rattle.rows.specs.declared.node.NodeSpec.{NodeSpec}
use Rattle.rows.specs.declared.worker.Work.{Work}
use Rattle.group_model.specs.Servers.{Server, ServerTurn, newcomer, step}
use Rattle.client_agent.specs.AgentView.{AgentView}
use Rattle.server.specs.declared.server.Outbox.{Outbox}
use Rattle.server.specs.ServerViews.{ServerView, SameServer, crashed_server}
use Rattle.group_inputs.specs.Handings.{Handing, FrameBytes, OwnInput as TakesOwn, handing}
use Rattle.server.specs.Steps.{TakesHanding, TakesTurn, takes_in}
use Rattle.event_book.specs.declared.view.EventView.{EventView}
use Rattle.event_book.specs.declared.view.EventView.TheVariants.{Own, Delivery, Crash}
use Rattle.event_book.specs.declared.view.Output.{Output}
use Rattle.event_book.specs.declared.view.NotedView.{NotedView}
use Rattle.event_book.specs.declared.view.Note.{Note}
use Rattle.event_book.specs.declared.view.MessageTokenView.{MessageTokenView}
use Rattle.event_book.specs.declared.view.SeatView.{SeatView}
use Rattle.event_book.specs.Seats.{with_note, with_taken}
use Rattle.cells.specs.declared.own_input.OwnInput.{OwnInput}
use Rattle.actor.specs.declared.group_actor.GroupActor.{GroupActor}
use Rattle.actor.specs.declared.group_actor.GroupActor.TheVariants as group_actors
use Rattle.actor.specs.declared.stepped.Stepped.{Stepped}
use Rattle.actor.specs.declared.stepped.Stepped.TheVariants.{Taken, Crashed}
use Rattle.actor.specs.Refusals.{RefusedSo}
use Rattle.actor.specs.Answers.{nothing_sent}
use Rattle.cells.specs.declared.own_input.OwnInput.TheVariants as own
use Rattle.cells.specs.Actors.{output_frame, ServerTurned, TakesInput, ServerTurns, ClientTurns, ActorTurns, BeginsAs, HasNode, IsNewActor, SameActor}
use Rattle.cells.specs.Refusals.{ActorRefuses, TakesUp}
use Rattle.cells.specs.Cells.{AreSent, EnvelopeView, CellView, HasNoteLeft, IsLed, IsLedCell, IsLedFrom, IsOpenedCell, IsEnvelopeRefused, Turned, crash_noted, envelopes_from, kept_in}
use Rattle.cells.specs.declared.cell.StampedEvent.{StampedEvent}
use Rattle.cells.specs.Turns.{CellRefuses, TookTurn}
use Rattle.cells.specs.Inner.Steps.{Did, output_of}
use Rattle.cells.specs.Inner.Sending.{IsRecorded, IsStill, IsTurn, last_envelopes}
use Rattle.server.proofs.Servers.{same_is}
use Rattle.cells.proofs.Sending.{envelopes_end}

-- ---- one value in place of another that is the same actor

same_places : (v w x : ServerView) → SameServer v w → (v.raft.me ≡ x.raft.me) × (v.raft.size ≡ x.raft.size) → (w.raft.me ≡ x.raft.me) × (w.raft.size ≡ x.raft.size)
same_places v w x same at = let raft = same.raft in (raft.me ∙ at.0, raft.size ∙ at.1)

module _ (x v w : ServerView) (same : SameServer v w) where
  same_turn : (q : Result ServerTurn Refusal) (before after : Outbox) → TakesTurn q v before after → TakesTurn q w before after
  same_turn q before after t = let turn = t.turn in record { turn = turn; is = t.is; server = same_is v w turn.server same t.server; sent = t.sent; work = t.work }

  same_takes : (s : Server) (h : Handing) (before after : Outbox) → TakesHanding x s h v before after → TakesHanding x s h w before after
  same_takes s (FrameBytes bytes) before after t = λ message frame. same_turn (takes_in x.raft.size x.raft.me s message) before after (t message frame)
  same_takes s (TakesOwn input) before after t = same_turn (step x.raft.size x.raft.me s input) before after t

  same_turned : (h : Handing) (outs : List Output) (work : List Work) → ServerTurned x h outs work v → ServerTurned x h outs work w
  same_turned h outs work t = record { same = same_places v w x same t.same; admitted = t.admitted; taken = λ s is. same_takes s h nothing_sent (record { frames = map output_frame outs; work = work }) (t.taken s is) }

  same_input : (h : Handing) (outs : List Output) (work : List Work) → TakesInput x h outs work v → TakesInput x h outs work w
  same_input (FrameBytes bytes) outs work t = t
  same_input (TakesOwn input) outs work t = same_turned (TakesOwn input) outs work t

  same_server_turns : (event : EventView OwnInput) (outs : List Output) (work : List Work) → ServerTurns x event outs work v → ServerTurns x event outs work w
  same_server_turns (Own (own.Server input)) outs work t = same_input (handing input.value) outs work t
  same_server_turns (Own (own.Client input)) outs work t = t
  same_server_turns (Delivery stamp place frame) outs work t = same_turned (FrameBytes frame) outs work t
  same_server_turns Crash outs work t =
      let c = t.2 in
      (t.0, t.1, record { same = same_places v w x same c.same; fell = λ s is. let f = c.fell s is in (f.0, same_is v w (crashed_server s) same f.1) })

same_turns : (old a b : GroupActor) (event : EventView OwnInput) (outs : List Output) (work : List Work) → SameActor a b → ActorTurns old event outs work a → ActorTurns old event outs work b
same_turns (group_actors.Server x) (group_actors.Server v) (group_actors.Server w) event outs work same t = same_server_turns x v w same event outs work t
same_turns (group_actors.Server x) (group_actors.Server v) (group_actors.Client w) event outs work same t = absurd same
same_turns (group_actors.Server x) (group_actors.Client v) b event outs work same t = absurd t
same_turns (group_actors.Client x) (group_actors.Server v) b event outs work same t = absurd t
same_turns (group_actors.Client x) (group_actors.Client v) (group_actors.Server w) event outs work same t = absurd same
same_turns (group_actors.Client x) (group_actors.Client v) (group_actors.Client w) event outs work same t = (t.0, subst (λ (y : AgentView). ClientTurns x event outs y) (sym same) t.1)

same_new : (n : ℕ) (me : Actor) (a b : GroupActor) → SameActor a b → IsNewActor n me a → IsNewActor n me b
same_new n (actors.Server i) (group_actors.Server v) (group_actors.Server w) same new = let raft = same.raft in (raft.me ∙ new.0, raft.size ∙ new.1, same_is v w newcomer same new.2)
same_new n (actors.Server i) (group_actors.Server v) (group_actors.Client w) same new = absurd same
same_new n (actors.Server i) (group_actors.Client v) b same new = absurd new
same_new n (actors.Client c) (group_actors.Server v) b same new = absurd new
same_new n (actors.Client c) (group_actors.Client v) (group_actors.Server w) same new = absurd same
same_new n (actors.Client c) (group_actors.Client v) (group_actors.Client w) same new = subst (λ (y : AgentView). IsNewActor n (actors.Client c) (group_actors.Client y)) (sym same) new

same_node : (nodes : List NodeSpec) (me : Actor) (a b : GroupActor) → SameActor a b → HasNode nodes me a → HasNode nodes me b
same_node nodes (actors.Server i) a b same has = tt
same_node nodes (actors.Client c) (group_actors.Server v) b same has = absurd has
same_node nodes (actors.Client c) (group_actors.Client v) (group_actors.Server w) same has = absurd same
same_node nodes (actors.Client c) (group_actors.Client v) (group_actors.Client w) same has = subst (λ (y : AgentView). HasNode nodes (actors.Client c) (group_actors.Client y)) (sym same) has

same_begins : (n : ℕ) (nodes : List NodeSpec) (me : Actor) (a b : GroupActor) → SameActor a b → BeginsAs n nodes me a → BeginsAs n nodes me b
same_begins n nodes me a b same begins = (same_new n me a b same begins.0, same_node nodes me a b same begins.1)

same_led : (n : ℕ) (nodes : List NodeSpec) (me : Actor) (notes : List (Note OwnInput)) (a b : GroupActor) → SameActor a b → IsLed (BeginsAs n nodes me) notes a → IsLed (BeginsAs n nodes me) notes b
same_led n nodes me [] a b same led = same_begins n nodes me a b same led
same_led n nodes me (e ∷ es) a b same led = let t = led.2 in (led.0, led.1, (t.0, same_turns led.0 a b e.noted.event e.noted.outputs t.0 same t.1))

-- a refusal leaves the actor where its notes lead it
led_still : (n : ℕ) (nodes : List NodeSpec) (seat : SeatView OwnInput) (a b : GroupActor) → SameActor a b → IsOpenedCell n nodes (record { actor = a; seat = seat }) → IsOpenedCell n nodes (record { actor = b; seat = seat })
led_still n nodes seat a b same led = same_led n nodes seat.actor (reverse seat.notes) a b same led

led_weaker : (n : ℕ) (nodes : List NodeSpec) (me : Actor) (notes : List (Note OwnInput)) (a : GroupActor) → IsLed (BeginsAs n nodes me) notes a → IsLed (IsNewActor n me) notes a
led_weaker n nodes me [] a led = led.0
led_weaker n nodes me (e ∷ es) a led = (led.0, led_weaker n nodes me es led.0 led.1, led.2)

-- where it began with its own node, its notes lead it
pub opened_is_led : (n : ℕ) (nodes : List NodeSpec) (c : CellView) → IsOpenedCell n nodes c → IsLedCell n c
opened_is_led n nodes c led = led_weaker n nodes c.seat.actor (reverse c.seat.notes) c.actor led

pub same_actor : (a : GroupActor) → SameActor a a
same_actor (group_actors.Server v) = record { raft = record { me = refl; size = refl; base = refl; server = refl }; desk = refl }
same_actor (group_actors.Client a) = refl

-- ---- a turn

-- the last note's outputs are those of what was noted
last_sent : (old after : SeatView OwnInput) (noted : NotedView OwnInput) (stamp : ℕ) (tokens : List (MessageTokenView OwnInput)) → after ≡ with_note noted stamp (with_taken tokens old)
    → last_envelopes after.notes ≡ envelopes_from (record { stamp = stamp; actor = old.actor; noted = noted }) 0 noted.outputs
last_sent old after noted stamp tokens is =
    let note : Note OwnInput = record { stamp = stamp; actor = old.actor; noted = noted } in
    ap (λ (s : SeatView OwnInput). last_envelopes s.notes) is ∙ envelopes_end old.notes note

pub turned : (old : CellView) (envelope : EnvelopeView) (stepped : Stepped) (outbox : Outbox) (new : GroupActor) (after : SeatView OwnInput) (work : List Work) (sent : List EnvelopeView) (unsent : ℕ) → envelope.receiver ≡ old.seat.actor → HasNoteLeft old
    → Did old.actor envelope.event stepped outbox new → IsRecorded old.seat envelope.event envelope.tokens stepped outbox after work sent unsent → Turned old envelope (record { actor = new; seat = after }) work sent unsent
turned old envelope Taken outbox new after work sent unsent mine room did r =
    let outs = map output_of outbox.frames in
    record {
      noted = record { event = envelope.event; outputs = outs };
      taken = envelope.tokens;
      stamp = r.stamp;
      receiver = mine;
      room = room;
      is_of = inl (refl, refl);
      step = subst (λ (w : List Work). ActorTurns old.actor envelope.event outs w new) (sym r.work_is) did;
      seat = r.seat;
      count = r.count;
      are = r.are ∙ ap (take r.count) (last_sent old.seat after (record { event = envelope.event; outputs = outs }) r.stamp envelope.tokens r.seat);
      all = r.all;
    }
turned old envelope Crashed outbox new after work sent unsent mine room did was =
    let r = subst (λ (o : Outbox). IsRecorded old.seat envelope.event envelope.tokens Crashed o after work sent unsent) did.0 was in
    record {
      noted = crash_noted;
      taken = [];
      stamp = r.stamp;
      receiver = mine;
      room = room;
      is_of = inr (refl, refl, did.2);
      step = subst (λ (w : List Work). ActorTurns old.actor Crash [] w new) (sym r.work_is) did.1;
      seat = r.seat;
      count = r.count;
      are = r.are ∙ ap (take r.count) (last_sent old.seat after crash_noted r.stamp [] r.seat);
      all = r.all;
    }

-- a turn leads the actor on by its note
pub led_on : (began : Actor → GroupActor → Type 0) (old : CellView) (envelope : EnvelopeView) (new : CellView) (work : List Work) (sent : List EnvelopeView) (unsent : ℕ) → IsLedFrom began old → Turned old envelope new work sent unsent → IsLedFrom began new
led_on began old envelope new work sent unsent led t =
    let note : Note OwnInput = record { stamp = t.stamp; actor = old.seat.actor; noted = t.noted } in
    let newest : reverse (old.seat.notes ++ note ∷ []) ≡ note ∷ reverse old.seat.notes = reverse-append old.seat.notes (note ∷ []) in
    subst (λ (s : SeatView OwnInput). IsLed (began s.actor) (reverse s.notes) new.actor) (sym t.seat) (subst (λ l. IsLed (began old.seat.actor) l new.actor) (sym newest) (old.actor, led, (work, t.step)))

-- ---- a cell's turn, both ways

abbrev pub Kept : ℕ → List NodeSpec → Actor → GroupActor → List StampedEvent → SeatView OwnInput → Type 0
Kept n nodes me actor taken seat = (me ≡ seat.actor) × (taken ≡ map kept_in seat.notes) × IsOpenedCell n nodes (record { actor = actor; seat = seat })

-- what became of an envelope keeps what a cell keeps
pub cell_kept : {X : Type 0} (n : ℕ) (nodes : List NodeSpec) (me : Actor) (old : CellView) (envelope : EnvelopeView) (q : Result X Refusal) (work : X → List Work) (sent : X → List EnvelopeView) (unsent : X → ℕ) (after : GroupActor) (now : SeatView OwnInput) (before taken : List StampedEvent)
    → Kept n nodes me old.actor before old.seat → envelope.receiver ≡ me → HasNoteLeft old
    → IfOk q (λ x. IsTurn old.actor old.seat envelope.event envelope.tokens (work x) (sent x) (unsent x) after now) → IfErr q (λ cause. IsStill old.actor old.seat envelope.event cause after now)
    → taken ≡ map kept_in now.notes → Kept n nodes me after taken now
cell_kept n nodes me old envelope (Ok x) work sent unsent after now before taken was to room turn still kept =
    let t = turned old envelope turn.stepped turn.outbox after now (work x) (sent x) (unsent x) (to ∙ was.0) room turn.did turn.recorded in
    (was.0 ∙ sym (ap (λ (s : SeatView OwnInput). s.actor) t.seat), kept, led_on (BeginsAs n nodes) old envelope (record { actor = after; seat = now }) (work x) (sent x) (unsent x) was.2 t)
cell_kept n nodes me old envelope (Err cause) work sent unsent after now before taken was to room turn still kept =
    (was.0 ∙ sym (ap (λ (s : SeatView OwnInput). s.actor) still.seat_is), kept, subst (λ s. IsOpenedCell n nodes (record { actor = after; seat = s })) (sym still.seat_is) (led_still n nodes old.seat old.actor after still.same was.2))

pub cell_turned : {X : Type 0} (me : Actor) (old : CellView) (envelope : EnvelopeView) (q : Result X Refusal) (work : X → List Work) (sent : X → List EnvelopeView) (unsent : X → ℕ) (after : GroupActor) (now : SeatView OwnInput)
    → me ≡ old.seat.actor → envelope.receiver ≡ me → HasNoteLeft old → IfOk q (λ x. IsTurn old.actor old.seat envelope.event envelope.tokens (work x) (sent x) (unsent x) after now)
    → IfOk q (λ x. Turned old envelope (record { actor = after; seat = now }) (work x) (sent x) (unsent x))
cell_turned me old envelope (Ok x) work sent unsent after now mine to room turn = turned old envelope turn.stepped turn.outbox after now (work x) (sent x) (unsent x) (to ∙ mine) room turn.did turn.recorded
cell_turned me old envelope (Err cause) work sent unsent after now mine to room turn = turn

as_said : (says : Refusal → Type 0) (cause : Refusal) → RefusedSo (Unit {0}) says cause → (cause ≡ refusals.NoMemory) ⊎ says cause
as_said says refusals.NoMemory said = inl refl
as_said says _ said = inr said

pub cell_refused : {X : Type 0} (me : Actor) (old : CellView) (envelope : EnvelopeView) (q : Result X Refusal) (after : GroupActor) (now : SeatView OwnInput)
    → me ≡ old.seat.actor → TakesUp old.actor envelope.event → envelope.receiver ≡ me → HasNoteLeft old → IfErr q (λ cause. IsStill old.actor old.seat envelope.event cause after now)
    → IfErr q (λ cause. IsEnvelopeRefused old envelope cause)
cell_refused me old envelope (Ok x) after now mine takes_up to room still = still
cell_refused me old envelope (Err cause) after now mine takes_up to room still = inr (takes_up, inr (to ∙ mine, inr (room, as_said (ActorRefuses old.actor envelope.event) cause still.refused)))

-- ---- a turn as an actor's

pub took_turn : {X : Type 0} (n : ℕ) (old : CellView) (envelope : EnvelopeView) (q : Result X Refusal) (work : X → List Work) (sent : X → List EnvelopeView) (unsent : X → ℕ) (new : CellView)
    → IsLedCell n old → IfOk q (λ x. Turned old envelope new (work x) (sent x) (unsent x)) → IfOk q (λ x. TookTurn n envelope (work x) (sent x) (unsent x))
took_turn n old envelope (Ok x) work sent unsent new led t = record { old = old; new = new; before = led; after = led_on (IsNewActor n) old envelope new (work x) (sent x) (unsent x) led t; turned = t }
took_turn n old envelope (Err cause) work sent unsent new led t = t

pub sent_by : {X : Type 0} (old : CellView) (envelope : EnvelopeView) (q : Result X Refusal) (work : X → List Work) (sent : X → List EnvelopeView) (unsent : X → ℕ) (new : CellView)
    → IfOk q (λ x. Turned old envelope new (work x) (sent x) (unsent x)) → IfOk q (λ x. AreSent envelope.receiver (sent x))
sent_by old envelope (Ok x) work sent unsent new t = record { note = record { stamp = t.stamp; actor = old.seat.actor; noted = t.noted }; of = sym t.receiver; count = t.count; are = t.are }
sent_by old envelope (Err cause) work sent unsent new t = t

pub refused_as : {X : Type 0} (n : ℕ) (actor : Actor) (old : CellView) (envelope : EnvelopeView) (q : Result X Refusal) → IsLedCell n old → old.seat.actor ≡ actor → IfErr q (IsEnvelopeRefused old envelope) → IfErr q (CellRefuses n actor envelope)
refused_as n actor old envelope (Ok x) led mine refused = refused
refused_as n actor old envelope (Err cause) led mine refused = (old, led, inr (mine, refused))
