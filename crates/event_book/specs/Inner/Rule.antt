-- The rule of the book's table, and what steps tell.
use Rattle.std.specs.Prelude.{◌≡◌, ℕ, ◌^◌, ◌<◌, ◌≤◌, true, List, [], ◌∷◌, map, length, Some, slice_get}
use Rattle.std.specs.List.{AllByRecursion}
use mathlib.Core.Option.{some}
use lib.ListN.{get_elem?}
use Rattle.atomic_table.specs.Table.{State, Step}
use Rattle.rows.specs.declared.actor.Actor.{Actor}
use Rattle.event_book.specs.declared.view.NotedView.{NotedView}
use Rattle.event_book.specs.declared.view.Note.{Note}
use Rattle.event_book.specs.declared.view.MessageTokenView.{MessageTokenView}
use Rattle.event_book.specs.declared.view.SeatView.{SeatView}
use Rattle.event_book.specs.declared.view.BookView.{BookView}
use Rattle.event_book.specs.Histories.{notes_of, IsLegal}
use Rattle.event_book.specs.Seats.{lists_actor, are_apart, actor_in, IsWhole, with_note}
use Rattle.event_book.specs.Inner.Views.{HolderView}

module _ {I : Type 0} where
  -- the token names an output of an event of the history
  abbrev pub NamesOutput : List (Note I) → MessageTokenView I → Type 0
  NamesOutput log token =
      (slice_get log token.note.stamp ≡ Some token.note)
      × (token.place < length token.note.noted.outputs)

  -- what is so of a seat that stands in the view at i, where `holder` says in which view the seat
  -- of each actor stands
  abbrev pub FitsSeat : List Actor → (Actor → ℕ) → List (Note I) → ℕ → SeatView I → Type 0
  FitsSeat actors holder log i seat =
      (holder seat.actor ≡ i) × (lists_actor actors seat.actor ≡ true)
      × (seat.notes ≡ notes_of seat.actor log) × AllByRecursion (NamesOutput log) seat.taken

  -- and of the view at i
  abbrev pub Fits : List Actor → (Actor → ℕ) → List (Note I) → ℕ → BookView I → Type 0
  Fits actors holder log i view =
      AllByRecursion (FitsSeat actors holder log i) view.seats
      × AllByRecursion (NamesOutput log) view.tokens × (are_apart (map actor_in view.seats) ≡ true)

  -- Between any two moves there is one legal history, which proofs alone see. The word is its
  -- length, no actor noted more than 2^40 - 1 events, and each view fits it
  pub record IsBookState (actors : List Actor) (s : State (Unit {0}) (BookView I)) : Type 0 where
    pub log : List (Note I)
    pub holder : Actor → ℕ
    pub words : s.words ≡ length log ∷ []
    pub legal : IsLegal actors log
    pub few : length actors ≤ 69
    pub short : (a : Actor) → length (notes_of a log) < 2 ^ 40
    pub fits : (i : ℕ) (view : BookView I) → get_elem? s.views i ≡ some view
        → Fits actors holder log i view

  -- one note more, with a stamp greater than every earlier one of the seat
  abbrev pub AddsTo : NotedView I → HolderView I → ℕ → HolderView I → Type 0
  AddsTo noted me stamp after =
      (after ≡ (record me.0 { seats = map (with_note noted stamp) me.0.seats }, me.1))
      × AllByRecursion (λ (seat : SeatView I).
      AllByRecursion (λ (note : Note I). note.stamp < stamp) seat.notes) me.0.seats

  abbrev pub Adds : NotedView I → Step (Unit {0}) → HolderView I → ℕ → HolderView I → Type 0
  Adds noted _ = AddsTo noted

  -- the whole history of some seats, n notes long
  abbrev pub LooksAt : List Actor → HolderView I → ℕ → HolderView I → Type 0
  LooksAt actors me n after =
      (after ≡ me) × (are_apart (map actor_in me.0.seats) ≡ true)
      × ((z : Actor) → lists_actor (map actor_in me.0.seats) z ≡ true → lists_actor actors z ≡ true)
      × ((log : List (Note I)) × (n ≡ length log) × IsWhole actors log me.0.seats)

  abbrev pub Looks : List Actor → Step (Unit {0}) → HolderView I → ℕ → HolderView I → Type 0
  Looks actors _ = LooksAt actors
