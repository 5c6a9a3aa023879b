-- What a cell notes, and the envelopes of what its actor sent.
use Rattle.std.specs.Prelude.{◌≡◌, ◌+◌, ℕ, List, [], ◌∷◌, ◌++◌, length, map, take}
use Rattle.rows.specs.declared.worker.Work.{Work}
use Rattle.event_book.specs.declared.view.EventView.{EventView}
use Rattle.event_book.specs.declared.view.EventView.TheVariants.{Own, Delivery, Crash}
use Rattle.event_book.specs.declared.view.Output.{Output}
use Rattle.event_book.specs.declared.view.NotedView.{NotedView}
use Rattle.event_book.specs.declared.view.Note.{Note}
use Rattle.event_book.specs.declared.view.MessageTokenView.{MessageTokenView}
use Rattle.event_book.specs.declared.view.SeatView.{SeatView}
use Rattle.event_book.specs.Seats.{Names, with_note, with_taken}
use Rattle.server.specs.declared.server.Outbox.{Outbox}
use Rattle.actor.specs.declared.group_actor.GroupActor.{GroupActor}
use Rattle.actor.specs.declared.stepped.Stepped.{Stepped}
use Rattle.actor.specs.declared.stepped.Stepped.TheVariants.{Taken, Crashed}
use Rattle.actor.specs.Refusals.{RefusedSo}
use Rattle.cells.specs.declared.own_input.OwnInput.{OwnInput}
use Rattle.rows.specs.declared.refusal.Refusal.{Refusal}
use Rattle.cells.specs.Actors.{SameActor}
use Rattle.cells.specs.Refusals.{ActorRefuses}
use Rattle.cells.specs.Inner.Steps.{Did, output_of}
use Rattle.cells.specs.Cells.{EnvelopeView, envelopes_from}

-- the outputs of the last note, each with its token
abbrev pub last_envelopes : List (Note OwnInput) → List EnvelopeView
last_envelopes [] = []
last_envelopes (note ∷ []) = envelopes_from note 0 note.noted.outputs
last_envelopes (note ∷ next ∷ notes) = last_envelopes (next ∷ notes)

-- the last note has this stamp and these outputs
pub record EndsWith (notes : List (Note OwnInput)) (stamp : ℕ) (outputs : List Output) : Type 0 where
  pub before : List (Note OwnInput)
  pub note : Note OwnInput
  pub notes_are : notes ≡ before ++ note ∷ []
  pub stamp_is : note.stamp ≡ stamp
  pub outputs_are : note.noted.outputs ≡ outputs

-- a note of this, after a taking in
pub record IsNoted (old : SeatView OwnInput) (event : EventView OwnInput) (tokens : List (MessageTokenView OwnInput)) (outputs : List Output) (new : SeatView OwnInput) : Type 0 where
  pub stamp : ℕ
  pub seat : new ≡ with_note (record { event = event; outputs = outputs }) stamp (with_taken tokens old)

-- the seat may note this once these tokens are taken in
abbrev pub CanBeNoted : SeatView OwnInput → EventView OwnInput → List (MessageTokenView OwnInput) → Type 0
CanBeNoted seat (Own input) tokens = Unit {0}
CanBeNoted seat (Delivery stamp place frame) tokens =
    (token : MessageTokenView OwnInput) × (tokens ≡ token ∷ []) × Names token stamp place seat.actor frame
CanBeNoted seat Crash tokens = Unit {0}

-- ---- what is noted of a step, or of a crash in its place

abbrev pub event_by : EventView OwnInput → Stepped → EventView OwnInput
event_by event Taken = event
event_by event Crashed = Crash

abbrev pub noted_by : EventView OwnInput → Stepped → Outbox → NotedView OwnInput
noted_by event stepped outbox = record { event = event_by event stepped; outputs = map output_of outbox.frames }

abbrev pub tokens_by : List (MessageTokenView OwnInput) → Stepped → List (MessageTokenView OwnInput)
tokens_by tokens Taken = tokens
tokens_by tokens Crashed = []

pub record IsRecorded (old : SeatView OwnInput) (event : EventView OwnInput) (tokens : List (MessageTokenView OwnInput)) (stepped : Stepped) (outbox : Outbox) (new : SeatView OwnInput) (work : List Work) (sent : List EnvelopeView) (unsent : ℕ) : Type 0 where
  pub stamp : ℕ
  pub seat : new ≡ with_note (noted_by event stepped outbox) stamp (with_taken (tokens_by tokens stepped) old)
  pub work_is : work ≡ outbox.work
  pub count : ℕ
  pub are : sent ≡ take count (last_envelopes new.notes)
  pub all : count + unsent ≡ length (noted_by event stepped outbox).outputs

-- the actor did something with what came, and the seat recorded that
pub record IsTurn (actor : GroupActor) (seat : SeatView OwnInput) (event : EventView OwnInput) (tokens : List (MessageTokenView OwnInput)) (work : List Work) (sent : List EnvelopeView) (unsent : ℕ) (after : GroupActor) (now : SeatView OwnInput) : Type 0 where
  pub stepped : Stepped
  pub outbox : Outbox
  pub did : Did actor event stepped outbox after
  pub recorded : IsRecorded seat event tokens stepped outbox now work sent unsent

-- the actor refused it, and the seat is as it was
pub record IsStill (actor : GroupActor) (seat : SeatView OwnInput) (event : EventView OwnInput) (cause : Refusal) (after : GroupActor) (now : SeatView OwnInput) : Type 0 where
  pub same : SameActor actor after
  pub seat_is : now ≡ seat
  pub refused : RefusedSo (Unit {0}) (ActorRefuses actor event) cause
