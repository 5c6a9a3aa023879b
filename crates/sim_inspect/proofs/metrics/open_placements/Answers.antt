use Rattle.std.proofs.Common.{◌<◌, length, rules}
use Rattle.sim_inspect.specs.Inner.Findings.{IsPlacement}
use Rattle.sim_inspect.proofs.Zips.{zip_more}
use Rattle.sim_inspect.proofs.metrics.open_placements.Goals as goal

pub loop-metrics-preserved : goal.loop-metrics-preserved
loop-metrics-preserved c =
    let items = c.deref-metrics-items.result.now in
    let i = c.loop-metrics.metrics-index in
    let lt : i < length items = search rules in
    zip_more IsPlacement items i c.metrics-item.result c.loop-metrics.reports.items _ c.in_ok-placement.field-0
    lt c.metrics-item.is c.loop-metrics.invariant c.in_ok-placement.ensures c.in_ok-push.ensures.items
