use Rattle.std.proofs.Common.{◌≡◌}
use Rattle.std.specs.Prelude.{vec_len, ◌+◌}
use Rattle.std.specs.Vec.Iter.{into_iter_len}
use Rattle.cells.proofs.cells.unlocked.Given as goal

abbrev pub invariant-loop-lock : goal.invariant-loop-lock
invariant-loop-lock g l = vec_len l.cells + into_iter_len l.lock-iterator ≡ vec_len l.fn.locks
