-- Cells before their first event.
use Rattle.std.specs.Prelude.{◌≡◌, ◌⊎◌, true, List, map}
use Rattle.rows.specs.declared.actor.Actor.{Actor}
use Rattle.rows.specs.declared.refusal.Refusal.{Refusal}
use Rattle.rows.specs.declared.refusal.Refusal.TheVariants as refusals
use Rattle.event_book.specs.declared.view.SeatView.{SeatView}
use Rattle.event_book.specs.Seats.{actor_in, lists_actor}
use Rattle.cells.specs.declared.own_input.OwnInput.{OwnInput}

-- one of these seats is this actor's
abbrev pub HasSeat : List (SeatView OwnInput) → Actor → Type 0
HasSeat seats actor = lists_actor (map actor_in seats) actor ≡ true

-- why what may begin alone does not: for want of memory, or it may not
abbrev pub WhyNotBegun : Type 0 → Refusal → Type 0
WhyNotBegun May r = (r ≡ refusals.NoMemory) ⊎ (r ≡ refusals.OutOfRange) × (May → ⊥)
