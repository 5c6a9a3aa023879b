use Rattle.std.proofs.Common.{◌≡◌, ◌++◌, length}
use Rattle.std.specs.Vec.Iter.{into_iter_items, into_iter_len}
use Rattle.cells.specs.Opening.{AreNew, MayOpen}
use Rattle.std.specs.List.{AllByRecursion}
use Rattle.cells.proofs.opening.new_cells.Given as goal

abbrev pub invariant-loop-seat : goal.invariant-loop-seat
invariant-loop-seat g l =
    AreNew l.fn.n l.fn.nodes l.cells.items l.yielded
    × AllByRecursion (MayOpen l.fn.n (length l.fn.nodes)) l.yielded
    × (l.yielded ++ into_iter_items l.seat-iterator ≡ l.fn.seats.items)
    × (into_iter_len l.seat-iterator ≡ length (into_iter_items l.seat-iterator))
