use Rattle.std.proofs.Common.{arith}
use Rattle.sim_metrics.proofs.Once.{counted_once}
use Rattle.sim_metrics.proofs.counting.counts.Goals as goal

pub returns-clause-once : goal.returns-clause-once
returns-clause-once c = omega (
  arith,
  c.count_of.ensures,
  c.count_of-2.ensures,
  c.count_of-3.ensures,
  c.count_of-4.ensures,
  c.count_of-5.ensures,
  c.count_of-6.ensures,
  c.count_of-7.ensures,
  counted_once c.args.verdicts.now,
)
