use Rattle.std.proofs.Common.{take}
use Rattle.std.specs.List.{AllZip}
use Rattle.sim_inspect.specs.Inner.Findings.{IsPlacement}
use Rattle.sim_inspect.proofs.metrics.open_placements.Given as goal

abbrev pub invariant-loop-metrics : goal.invariant-loop-metrics
invariant-loop-metrics l = AllZip IsPlacement (take l.metrics-index l.metrics-items) l.reports.items
