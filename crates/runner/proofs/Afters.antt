-- After how many events of a run.
use Rattle.std.proofs.Common.{◌≤◌, ℕ, List, Option, None, Some, arith}
use Rattle.runner.specs.Told.{IsAfter}

pub after_within : (at : Option (List ℕ)) (all after : ℕ) → IsAfter at all after → after ≤ all
after_within None all after is = omega (arith, is)
after_within (Some word) all after is = is.1
