use Rattle.std.proofs.Common.{arith}
use Rattle.fsm_tables.proofs.Listed.{none_listed}
use Rattle.fsm_tables.proofs.Sums.{none_summed}
use Rattle.fsm_tables.proofs.allocations.Allocations.empty.Goals as goal

pub invariant_of-result : goal.invariant_of-result
invariant_of-result c = rw c.empty.ensures (record { summed = none_summed; listed = none_listed _; few = omega arith })
