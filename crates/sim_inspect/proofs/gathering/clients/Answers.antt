use Rattle.std.proofs.Common.{◌<◌, length, rules}
use Rattle.sim_inspect.specs.Inner.Clients.{IsClientReport}
use Rattle.sim_inspect.proofs.Zips.{zip_more}
use Rattle.sim_inspect.proofs.gathering.clients.Goals as goal

pub loop-client-preserved : goal.loop-client-preserved
loop-client-preserved c =
    let items = c.clients-client-items.result.now in
    let i = c.loop-client.client-index in
    let lt : i < length items = search rules in
    zip_more IsClientReport items i c.client-item.result c.loop-client.reports.items _ c.in_ok-client_report.field-0
    lt c.client-item.is c.loop-client.invariant c.in_ok-client_report.ensures c.in_ok-push.ensures.items
