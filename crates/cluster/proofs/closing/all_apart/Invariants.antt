use Rattle.std.proofs.Common.{◌≡◌, ◌++◌, length, map}
use Rattle.std.specs.List.{AllByRecursion}
use Rattle.std.specs.Vec.Iter.{into_iter_items, into_iter_len}
use Rattle.cells.specs.Actors.{group_size}
use Rattle.cells.specs.Cells.{IsOpenedCell}
use Rattle.cells.specs.Groups.{seat_in}
use Rattle.cells.specs.Rests.{rest_in, rest_of}
use Rattle.cluster.proofs.closing.all_apart.Given as goal

abbrev pub invariant-loop-cell : goal.invariant-loop-cell
invariant-loop-cell g l =
    (l.yielded ++ into_iter_items l.cell-iterator ≡ l.fn.cells.items)
    × (into_iter_len l.cell-iterator ≡ length (into_iter_items l.cell-iterator))
    × (l.seats.items ≡ map seat_in l.yielded)
    × (map rest_of l.rests.items ≡ map rest_in l.yielded)
    × AllByRecursion (IsOpenedCell (group_size g.B.BookId.actors) g.B.BookId.nodes) l.yielded
