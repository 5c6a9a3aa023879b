use Rattle.std.proofs.Common.{◌≡◌, ◌++◌, length, map}
use Rattle.std.specs.Vec.Iter.{into_iter_items, into_iter_len}
use Rattle.cluster.specs.Inner.Merged.{taken_event_in}
use Rattle.cluster.specs.Inner.Numbers.{NumberedSoFar}
use Rattle.cluster.proofs.numbering.number.Given as goal

abbrev pub invariant-loop-placed : goal.invariant-loop-placed
invariant-loop-placed l =
    (l.yielded ++ into_iter_items l.placed-iterator ≡ l.fn.merged.items)
    × (into_iter_len l.placed-iterator ≡ length (into_iter_items l.placed-iterator))
    × NumberedSoFar (map taken_event_in l.fn.merged.items) (map taken_event_in l.yielded) l.events.items l.offsets.items l.total
