use Rattle.std.proofs.Common.{◌≡◌, [], ◌++◌, length}
use Rattle.event_book.proofs.book.Book.close.Given as goal

-- the seats that are left, and those that were joined, are all seats
abbrev pub invariant-loop-seat : goal.invariant-loop-seat
invariant-loop-seat g l = (l.all.table_id ≡ g.B.BookId.table) × (l.all.me ≡ (record { seats = l.all.me.0.seats; tokens = [] }, [])) × (l.seats.items ++ l.all.me.0.seats ≡ l.fn.seats.items)

abbrev pub decreases-loop-seat : goal.decreases-loop-seat
decreases-loop-seat g l = length l.seats.items
