use Rattle.std.proofs.Common.{◌≡◌, [], take, drop, map, true}
use Rattle.event_book.specs.Seats.{are_apart, new_seat}
use Rattle.event_book.specs.Inner.Views.{opening_view}
use Rattle.event_book.proofs.opened.OpenedBook.seats.Given as goal

abbrev pub invariant-loop-actor : goal.invariant-loop-actor
invariant-loop-actor g l =
    (l.first.table_id ≡ l.initial.first.table_id)
    × (l.first.me ≡ (opening_view (drop l.actor-index l.actor-items), []))
    × (are_apart (drop l.actor-index l.actor-items) ≡ true)
    × (l.seats.items ≡ map new_seat (take l.actor-index l.actor-items))
