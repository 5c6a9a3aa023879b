use Rattle.std.proofs.Common.{◌≡◌, length}
use Rattle.std.specs.List.{AllByRecursion}
use Rattle.event_book.specs.Seats.{are_apart}
use Rattle.event_book.specs.Inner.Actors.{IsActor}
use Rattle.event_book.proofs.opened.are_apart.Given as goal

-- the actors before the rest differ from each other and from it
abbrev pub invariant-loop-actor : goal.invariant-loop-actor
invariant-loop-actor l = (are_apart l.actors ≡ are_apart l.rest) × (AllByRecursion IsActor l.rest → AllByRecursion IsActor l.actors)

abbrev pub decreases-loop-actor : goal.decreases-loop-actor
decreases-loop-actor l = length l.rest
