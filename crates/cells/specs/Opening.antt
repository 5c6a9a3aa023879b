-- Cells before their first event, and groups of them.
use Rattle.std.specs.Prelude.{◌≡◌, ◌⊎◌, ℕ, ◌<◌, ◌≤◌, List, [], ◌∷◌, length, map}
use Rattle.std.specs.List.{AllByRecursion}
use Rattle.rows.specs.declared.actor.Actor.{Actor}
use Rattle.rows.specs.declared.actor.Actor.TheVariants.{Server, Client}
use Rattle.rows.specs.declared.node.NodeSpec.{NodeSpec}
use Rattle.rows.specs.declared.refusal.Refusal.{Refusal}
use Rattle.rows.specs.declared.refusal.Refusal.TheVariants as refusals
use Rattle.event_book.specs.declared.view.SeatView.{SeatView}
use Rattle.event_book.specs.Seats.{actor_in}
use Rattle.cells.specs.declared.own_input.OwnInput.{OwnInput}
use Rattle.rows.specs.GroupSizes.{IsGroup}
use Rattle.cells.specs.Actors.{BeginsAs}
use Rattle.cells.specs.Cells.{CellView}
use Rattle.cells.specs.Groups.{AreOfGroup, AreSeated}

-- ---- cells before their first event

-- a group of n servers and m clients has this actor
abbrev pub IsOfGroup : ℕ → ℕ → Actor → Type 0
IsOfGroup n m (Server i) = i < n
IsOfGroup n m (Client c) = (1 ≤ c) × (c ≤ m)

-- the seat is of an actor of the group, and noted nothing
abbrev pub MayOpen : ℕ → ℕ → SeatView OwnInput → Type 0
MayOpen n m seat = (seat.notes ≡ []) × IsOfGroup n m seat.actor

-- There may be new cells at these seats: the group has 3 or 5 servers and at most 64 clients, which
-- are the book's actors, and each seat is of one of them and noted nothing.
pub record MayMakeCells (n m : ℕ) (all : List Actor) (seats : List (SeatView OwnInput)) : Type 0 where
  pub size : IsGroup n
  pub few : m ≤ 64
  pub group : AreOfGroup n m all
  pub each : AllByRecursion (MayOpen n m) seats

-- the cell has this seat, which noted nothing, so it has no inputs; and its actor is the one of the
-- group that begins
pub record IsNewCell (n : ℕ) (nodes : List NodeSpec) (cell : CellView) (seat : SeatView OwnInput) : Type 0 where
  pub seat_is : cell.seat ≡ seat
  pub unused : seat.notes ≡ []
  pub begins : BeginsAs n nodes seat.actor cell.actor

-- each cell is one that is new, with its seat
abbrev pub AreNew : ℕ → List NodeSpec → List CellView → List (SeatView OwnInput) → Type 0
AreNew n nodes [] [] = Unit {0}
AreNew n nodes [] (seat ∷ seats) = ⊥
AreNew n nodes (cell ∷ cells) [] = ⊥
AreNew n nodes (cell ∷ cells) (seat ∷ seats) = IsNewCell n nodes cell seat × AreNew n nodes cells seats

-- ---- groups of cells

-- Cells with these seats may be a group: it has 3 or 5 servers and at most 64 clients, which are the
-- book's actors, and there is one seat for each and no more, which noted nothing.
pub record MayOpenCells (n m : ℕ) (all : List Actor) (seats : List (SeatView OwnInput)) : Type 0 where
  pub size : IsGroup n
  pub few : m ≤ 64
  pub group : AreOfGroup n m all
  pub count : length seats ≡ length all
  pub each : AllByRecursion (MayOpen n m) seats
  pub seated : AreSeated n m (map actor_in seats)

-- what a contract sees of a group of cells: how many servers and clients it has, and its actors in
-- the order of their seats
pub record CellGroup : Type 0 where
  pub servers : ℕ
  pub clients : ℕ
  pub actors : List Actor

-- why none is opened: it may be, and memory was wanting; or it may not
abbrev pub WhyNotOpen : Type 0 → Refusal → Type 0
WhyNotOpen May r = (r ≡ refusals.NoMemory) × May ⊎ (r ≡ refusals.OutOfRange) × (May → ⊥)
