-- The noted events of all actors in one order, and when that order is a legal history.
use Rattle.std.specs.Prelude.{◌≡◌, ℕ, suc, ◌<◌, true, List, [], ◌∷◌, Some, slice_get}
use Rattle.std.specs.List.{filter, AllByRecursion}
use Rattle.rows.specs.declared.actor.Actor.{Actor}
use Rattle.event_book.specs.declared.view.EventView.{EventView}
use Rattle.event_book.specs.declared.view.EventView.TheVariants.{Own, Delivery, Crash}
use Rattle.event_book.specs.declared.view.Note.{Note}
use Rattle.event_book.specs.Actors.{same_actor, lists_actor}

module _ {I : Type 0} where
  -- what one actor noted, in order
  abbrev pub notes_of : Actor → List (Note I) → List (Note I)
  notes_of actor log = filter (λ (note : Note I). same_actor actor note.actor) log

  -- the stamps are k, k + 1 and so on, each once
  abbrev pub NumberedFrom : ℕ → List (Note I) → Type 0
  NumberedFrom k [] = Unit {0}
  NumberedFrom k (note ∷ log) = (note.stamp ≡ k) × NumberedFrom (suc k) log

  -- what is so of an actor's event with a stamp: a delivery names an output of an event with a
  -- smaller stamp, and the actor is that output's receiver
  abbrev pub IsDueEvent : List (Note I) → ℕ → Actor → EventView I → Type 0
  IsDueEvent log now actor (Own input) = Unit {0}
  IsDueEvent log now actor (Delivery stamp place frame) =
      (sender : Note I) × (slice_get log stamp ≡ Some sender) × (stamp < now)
      × (slice_get sender.noted.outputs place ≡ Some (record { to = actor; frame = frame }))
  IsDueEvent log now actor Crash = Unit {0}

  abbrev pub IsDueNote : List (Note I) → Note I → Type 0
  IsDueNote log note = IsDueEvent log note.stamp note.actor note.noted.event

  -- the stamps are 0 to n - 1, each once; each delivery names an output of an event before it, and
  -- its receiver noted it; each event is of one of the actors
  abbrev pub IsLegal : List Actor → List (Note I) → Type 0
  IsLegal actors log =
      NumberedFrom 0 log × AllByRecursion (IsDueNote log) log
      × AllByRecursion (λ (note : Note I). lists_actor actors note.actor ≡ true) log
