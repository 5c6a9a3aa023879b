use Rattle.std.proofs.Common.{◌<◌, get_or, length, rules, take}
use Rattle.std.proofs.lemmas.List.{take_more}
use Rattle.std.proofs.lemmas.Slice.Zip.{all_zipped_more}
use Rattle.group_inputs.specs.Events.{group_events}
use Rattle.sim_recovery.specs.Recoveries.{IsWayRow}
use Rattle.sim_recovery.proofs.table.rows_at.Goals as goal

pub loop-after-preserved : goal.loop-after-preserved
loop-after-preserved c =
    let moments = c.args.moments.now in
    let i = c.loop-after.after-index in
    let lt : i < length moments = search rules in
    rw (take_more moments i 0 lt, c.in_ok-put_row.ensures)
    (all_zipped_more (IsWayRow c.args.servers c.args.nodes.now (group_events c.args.events.now)) (take i moments) c.loop-after.rows.items (get_or moments i 0) c.in_ok-row.row c.loop-after.invariant c.in_ok-row.ensures.row)
