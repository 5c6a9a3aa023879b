use Rattle.std.proofs.Common.{◌≡◌}
use Rattle.std.specs.Prelude.{vec_len, ◌+◌}
use Rattle.std.specs.Vec.Iter.{into_iter_len}
use Rattle.cells.proofs.cells.locked.Given as goal

abbrev pub invariant-loop-cell : goal.invariant-loop-cell
invariant-loop-cell g l = vec_len l.locks + into_iter_len l.cell-iterator ≡ vec_len l.fn.cells
