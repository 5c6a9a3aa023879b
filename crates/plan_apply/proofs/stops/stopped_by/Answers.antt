use Rattle.std.proofs.Common.{◌≡◌, length, map, ap, sym, ◌∙◌, arith}
use Rattle.std.proofs.Math.ListN.{drop_of_length-le}
use Rattle.rows.specs.Keys.{alloc_id}
use Rattle.plan_apply.proofs.Stopping.{with_stops, stops_are_kept}
use Rattle.plan_apply.proofs.stops.stopped_by.Goals as goal

pub returns-clause-ids : goal.returns-clause-ids
returns-clause-ids c =
    let s = c.args.state.now in
    let p = c.args.plan.now in
    let same : length c.as_slice-id-items.result.now ≡ length p.stops = ap length c.as_slice-id-items.ensures.items in
    ap (with_stops s p.job (map alloc_id c.loop-id.rows)) (sym (drop_of_length-le p.stops (omega (arith, same))))
    ∙ c.loop-id.invariant.ids ∙ stops_are_kept s p
