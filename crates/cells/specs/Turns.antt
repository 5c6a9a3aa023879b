-- Turns of cells behind locks. Which cell it was has no name once its lock is let go: what is known
-- is that there was such a cell.
use Rattle.std.specs.Prelude.{◌≡◌, ◌≢◌, ◌⊎◌, ℕ, false, List, []}
use Rattle.rows.specs.declared.actor.Actor.{Actor}
use Rattle.rows.specs.declared.refusal.Refusal.{Refusal}
use Rattle.rows.specs.declared.refusal.Refusal.TheVariants as refusals
use Rattle.rows.specs.declared.worker.Work.{Work}
use Rattle.fsm_model.specs.Words.{State}
use Rattle.event_book.specs.declared.view.EventView.TheVariants.{Own}
use Rattle.event_book.specs.Actors.{lists_actor}
use Rattle.cells.specs.declared.own_input.OwnInput.{OwnInput}
use Rattle.cells.specs.Cells.{CellView, EnvelopeView, IsLedCell, IsEnvelopeRefused, Turned, HasApplied, WhyNotApplied}

-- In a group of n servers: a cell took a turn by this envelope, of which it is the receiver's; that
-- came for workers, this was sent, and so much more was not. Before and after, its actor is where
-- just the events lead it that its seat noted.
pub record TookTurn (n : ℕ) (envelope : EnvelopeView) (work : List Work) (sent : List EnvelopeView) (unsent : ℕ) : Type 0 where
  pub old : CellView
  pub new : CellView
  pub before : IsLedCell n old
  pub after : IsLedCell n new
  pub turned : Turned old envelope new work sent unsent

-- why a cell takes no turn as this actor: it is another actor's, or else it refuses the envelope
abbrev pub WhyNotTakenAs : CellView → Actor → EnvelopeView → Refusal → Type 0
WhyNotTakenAs c actor envelope r =
    (r ≡ refusals.OutOfRange) × (c.seat.actor ≢ actor)
    ⊎ (c.seat.actor ≡ actor) × IsEnvelopeRefused c envelope r

-- a cell, led by its notes, takes no turn as this actor by this envelope
abbrev pub CellRefuses : ℕ → Actor → EnvelopeView → Refusal → Type 0
CellRefuses n actor envelope r =
    (c : CellView) × IsLedCell n c × WhyNotTakenAs c actor envelope r

-- why no turn was taken: there is no such actor among these, or its cell refuses the envelope
abbrev pub WhyNoTurn : ℕ → List Actor → Actor → EnvelopeView → Refusal → Type 0
WhyNoTurn n all actor envelope r =
    (r ≡ refusals.OutOfRange) × (lists_actor all actor ≡ false)
    ⊎ CellRefuses n actor envelope r

-- an input of an actor's own, as it comes to that actor
abbrev pub own_envelope : Actor → OwnInput → EnvelopeView
own_envelope actor input = record { receiver = actor; event = Own input; tokens = [] }

-- ---- what a server's workers see

-- in a group of n servers, a cell of this actor, led by its notes, has applied this state, after so
-- many entries
abbrev pub CellHasState : ℕ → Actor → State → ℕ → Type 0
CellHasState n actor state count =
    (c : CellView) × IsLedCell n c × (c.seat.actor ≡ actor) × HasApplied c.actor state count

-- why a cell has no state for this actor's workers: it is another actor's, or else it has none
abbrev pub WhyNoStateAt : CellView → Actor → Refusal → Type 0
WhyNoStateAt c actor r =
    (r ≡ refusals.OutOfRange) × (c.seat.actor ≢ actor)
    ⊎ (c.seat.actor ≡ actor) × WhyNotApplied c.actor r

-- a cell, led by its notes, has no state for this actor's workers
abbrev pub CellHasNoState : ℕ → Actor → Refusal → Type 0
CellHasNoState n actor r = (c : CellView) × IsLedCell n c × WhyNoStateAt c actor r
