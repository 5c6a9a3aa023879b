-- What a contract sees of envelopes and cells, and what a cell's turn does.
use Rattle.std.specs.Prelude.{◌≡◌, ◌≢◌, ◌⊎◌, ℕ, suc, ◌+◌, ◌^◌, ◌<◌, ◌≤◌, true, Option, Some, None, List, [], ◌∷◌, length, take, reverse}
use Rattle.rows.specs.declared.actor.Actor.{Actor}
use Rattle.rows.specs.declared.node.NodeSpec.{NodeSpec}
use Rattle.rows.specs.declared.refusal.Refusal.{Refusal}
use Rattle.rows.specs.declared.refusal.Refusal.TheVariants as refusals
use Rattle.rows.specs.declared.worker.Work.{Work}
use Rattle.fsm_model.specs.Words.{State}
use Rattle.raft_model.specs.Rafts.{is_up}
use Rattle.group_model.specs.Desks.{applied_state}
use Rattle.group_model.specs.Servers.{Server}
use Rattle.server.specs.Refusals.{WhyNoSnapshot}
use Rattle.server.specs.ServerViews.{RefinesServer}
use Rattle.event_book.specs.declared.view.EventView.{EventView}
use Rattle.event_book.specs.declared.view.EventView.TheVariants.{Own, Delivery, Crash}
use Rattle.event_book.specs.declared.view.Output.{Output}
use Rattle.event_book.specs.declared.view.NotedView.{NotedView}
use Rattle.event_book.specs.declared.view.Note.{Note}
use Rattle.event_book.specs.declared.view.MessageTokenView.{MessageTokenView}
use Rattle.event_book.specs.declared.view.SeatView.{SeatView}
use Rattle.event_book.specs.Seats.{Names, with_note, with_taken}
use Rattle.cells.specs.declared.own_input.OwnInput.{OwnInput}
use Rattle.actor.specs.declared.group_actor.GroupActor.{GroupActor}
use Rattle.actor.specs.declared.group_actor.GroupActor.TheVariants as group_actors
use Rattle.cells.specs.declared.cell.KeptEvent.{KeptEvent}
use Rattle.cells.specs.declared.cell.KeptEvent.TheVariants as kept
use Rattle.cells.specs.declared.cell.StampedEvent.{StampedEvent}
use Rattle.cells.specs.Actors.{ActorTurns, ActorSteps, BeginsAs, IsNewActor, SameActor}
use Rattle.cells.specs.Refusals.{TakesUp, IsDeafTo, ActorRefuses, ActorMayEndOutOfMemory}

-- ---- envelopes

-- the actor that it is for, what it is to that actor, and what its token names
pub record EnvelopeView : Type 0 where
  pub receiver : Actor
  pub event : EventView OwnInput
  pub tokens : List (MessageTokenView OwnInput)

abbrev pub tokens_of : Option (MessageTokenView OwnInput) → List (MessageTokenView OwnInput)
tokens_of None = []
tokens_of (Some token) = token ∷ []

-- an input of the actor's own has no token, and a delivery that of the output that it is, which is
-- for its receiver
abbrev pub IsAddressed : EnvelopeView → EventView OwnInput → Type 0
IsAddressed e (Own input) = e.tokens ≡ []
IsAddressed e (Delivery stamp place frame) =
    (token : MessageTokenView OwnInput) × (e.tokens ≡ token ∷ []) × Names token stamp place e.receiver frame
IsAddressed e Crash = ⊥

-- the output at a place of a note, with its token
abbrev pub envelope_of : Note OwnInput → ℕ → Output → EnvelopeView
envelope_of note place o = record {
  receiver = o.to;
  event = Delivery note.stamp place o.frame;
  tokens = record { note = note; place = place } ∷ [];
}

-- the outputs of a note from this place on, each with its token
abbrev pub envelopes_from : Note OwnInput → ℕ → List Output → List EnvelopeView
envelopes_from note place [] = []
envelopes_from note place (o ∷ os) = envelope_of note place o ∷ envelopes_from note (suc place) os

-- first outputs of one event that this actor noted, each with its token
pub record AreSent (actor : Actor) (envelopes : List EnvelopeView) : Type 0 where
  pub note : Note OwnInput
  pub of : note.actor ≡ actor
  pub count : ℕ
  pub are : envelopes ≡ take count (envelopes_from note 0 note.noted.outputs)

-- ---- cells

-- the actor, and what its seat knows
pub record CellView : Type 0 where
  pub actor : GroupActor
  pub seat : SeatView OwnInput

-- what is kept of an event: of a delivery the stamp and the place of its message, and no frame
abbrev pub kept_input : EventView OwnInput → KeptEvent
kept_input (Own input) = kept.Own input
kept_input (Delivery stamp place frame) = kept.Delivery stamp place
kept_input Crash = kept.Crash

-- what is kept of a note: its stamp, its event, and how many outputs it had
abbrev pub kept_in : Note OwnInput → StampedEvent
kept_in e = record { stamp = e.stamp; event = kept_input e.noted.event; sent = length e.noted.outputs }

-- the actor is where these notes, the newest first, leave one that began so
abbrev pub IsLed : (GroupActor → Type 0) → List (Note OwnInput) → GroupActor → Type 0
IsLed began [] a = began a
IsLed began (e ∷ es) a = (b : GroupActor) × IsLed began es b × ActorSteps b e.noted.event e.noted.outputs a

-- the actor is where just the events that its seat noted leave one that began so
abbrev pub IsLedFrom : (Actor → GroupActor → Type 0) → CellView → Type 0
IsLedFrom began c = IsLed (began c.seat.actor) (reverse c.seat.notes) c.actor

-- In a group of n servers: the actor is where just the events lead it that its seat noted.
abbrev pub IsLedCell : ℕ → CellView → Type 0
IsLedCell n c = IsLedFrom (IsNewActor n) c

-- In a group of n servers and these nodes' clients: so it is, and a client began with its own node.
abbrev pub IsOpenedCell : ℕ → List NodeSpec → CellView → Type 0
IsOpenedCell n nodes c = IsLedFrom (BeginsAs n nodes) c

-- nothing changed, but that a leader may have made its machine after its whole log
pub record SameCell (old new : CellView) : Type 0 where
  pub actor : SameActor old.actor new.actor
  pub seat : new.seat ≡ old.seat

-- ---- turns

abbrev pub crash_noted : NotedView OwnInput
crash_noted = record { event = Crash; outputs = [] }

-- what was noted: the event that the envelope is, with its token taken in; or a crash in its place,
-- where it may want memory
abbrev pub IsNoteOf : CellView → EnvelopeView → NotedView OwnInput → List (MessageTokenView OwnInput) → Type 0
IsNoteOf old envelope noted taken =
    (noted.event ≡ envelope.event) × (taken ≡ envelope.tokens)
    ⊎ (noted ≡ crash_noted) × (taken ≡ []) × ActorMayEndOutOfMemory old.actor envelope.event

-- the seat may note one event more
abbrev pub HasNoteLeft : CellView → Type 0
HasNoteLeft c = length c.seat.notes + 1 < 2 ^ 40

-- The actor took one step, or crashed in its place; that was noted once; its first outputs come with
-- their tokens, all but as many as are unsent.
pub record Turned (old : CellView) (envelope : EnvelopeView) (new : CellView) (work : List Work) (sent : List EnvelopeView) (unsent : ℕ) : Type 0 where
  pub noted : NotedView OwnInput
  pub taken : List (MessageTokenView OwnInput)
  pub stamp : ℕ
  pub receiver : envelope.receiver ≡ old.seat.actor
  pub room : HasNoteLeft old
  pub is_of : IsNoteOf old envelope noted taken
  pub step : ActorTurns old.actor noted.event noted.outputs work new.actor
  pub seat : new.seat ≡ with_note noted stamp (with_taken taken old.seat)
  pub count : ℕ
  pub are : sent ≡ take count (envelopes_from (record { stamp = stamp; actor = old.seat.actor; noted = noted }) 0 noted.outputs)
  pub all : count + unsent ≡ length noted.outputs

-- why an actor's own envelope is refused, where it takes it up: the seat is full, or else there is
-- no memory, or the actor refuses it
abbrev pub WhyNotTaken : CellView → EnvelopeView → Refusal → Type 0
WhyNotTaken old envelope r =
    (r ≡ refusals.Exhausted) × (2 ^ 40 ≤ length old.seat.notes + 1)
    ⊎ HasNoteLeft old × ((r ≡ refusals.NoMemory) ⊎ ActorRefuses old.actor envelope.event r)

-- why an envelope is refused at an actor that takes it up: it is for another actor, or else as
-- above
abbrev pub WhyRefused : CellView → EnvelopeView → Refusal → Type 0
WhyRefused old envelope r =
    (r ≡ refusals.OutOfRange) × (envelope.receiver ≢ old.seat.actor)
    ⊎ (envelope.receiver ≡ old.seat.actor) × WhyNotTaken old envelope r

-- one that does not take it up refuses with `Down`
abbrev pub IsEnvelopeRefused : CellView → EnvelopeView → Refusal → Type 0
IsEnvelopeRefused old envelope r =
    (r ≡ refusals.Down) × IsDeafTo old.actor envelope.event
    ⊎ TakesUp old.actor envelope.event × WhyRefused old envelope r

-- ---- the state of a server

-- this is the replicated state of a server that is up, after so many entries
abbrev pub HasApplied : GroupActor → State → ℕ → Type 0
HasApplied (group_actors.Server v) state count = (s : Server) → RefinesServer v s →
    (is_up s.raft.mode ≡ true) × (state ≡ applied_state s.raft) × (count ≡ s.raft.commit)
HasApplied (group_actors.Client a) state count = ⊥

-- why there is no such state: the server is down, there is no memory, or it is a client
abbrev pub WhyNotApplied : GroupActor → Refusal → Type 0
WhyNotApplied (group_actors.Server v) r = (s : Server) → RefinesServer v s → WhyNoSnapshot s r
WhyNotApplied (group_actors.Client a) r = r ≡ refusals.OutOfRange
