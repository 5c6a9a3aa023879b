use Rattle.std.proofs.Common.{◌<◌, length, rules}
use Rattle.sim_inspect.specs.Inner.StateRows.{IsGroupReport}
use Rattle.sim_inspect.proofs.Zips.{zip_more}
use Rattle.sim_inspect.proofs.states.groups.Goals as goal

pub loop-row-preserved : goal.loop-row-preserved
loop-row-preserved c =
    let items = c.as_slice-row-items.result.now in
    let i = c.loop-row.row-index in
    let lt : i < length items = search rules in
    zip_more IsGroupReport items i c.row-item.result c.loop-row.reports.items _ c.in_ok-group.field-0
    lt c.row-item.is c.loop-row.invariant c.in_ok-group.ensures c.in_ok-push.ensures.items
