-- The actors of a group, and those that cells have.
use Rattle.std.specs.Prelude.{◌≡◌, ℕ, suc, ◌<◌, true, List, map}
use Rattle.rows.specs.declared.actor.Actor.{Actor}
use Rattle.rows.specs.declared.actor.Actor.TheVariants as actors
use Rattle.event_book.specs.declared.view.SeatView.{SeatView}
use Rattle.event_book.specs.Seats.{actor_in, are_apart, lists_actor}
use Rattle.cells.specs.declared.own_input.OwnInput.{OwnInput}
use Rattle.cells.specs.Cells.{CellView}

-- these are the actors of a group of n servers and m clients
pub record AreOfGroup (n m : ℕ) (all : List Actor) : Type 0 where
  pub servers : (i : ℕ) → i < n → lists_actor all (actors.Server i) ≡ true
  pub no_more_servers : (i : ℕ) → lists_actor all (actors.Server i) ≡ true → i < n
  pub clients : (k : ℕ) → k < m → lists_actor all (actors.Client (suc k)) ≡ true
  pub no_more_clients : (c : ℕ) → lists_actor all (actors.Client c) ≡ true → (k : ℕ) × (c ≡ suc k) × (k < m)

-- these are the actors of such a group, each once
abbrev pub AreSeated : ℕ → ℕ → List Actor → Type 0
AreSeated n m all = AreOfGroup n m all × (are_apart all ≡ true)

abbrev pub seat_in : CellView → SeatView OwnInput
seat_in c = c.seat

abbrev pub cell_actors : List CellView → List Actor
cell_actors cells = map actor_in (map seat_in cells)
