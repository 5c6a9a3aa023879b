use Rattle.std.proofs.Common.{◌*◌}
use Rattle.sim_expand.specs.Counts.{most_at_once}
use Rattle.sim_expand.specs.Inner.Taking.{TakesUpTo}
use Rattle.sim_expand.proofs.expanding.Taken.settle.Given as goal

-- so many times something was done
abbrev pub invariant-loop : goal.invariant-loop
invariant-loop l = TakesUpTo (l.counter * most_at_once l.fn.self.behind) l.fn.self l.self
