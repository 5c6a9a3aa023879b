use Rattle.sim_sweep.proofs.Keys.{one_more_row}
use Rattle.sim_sweep.proofs.sweeping.in_order.Goals as goal

pub loop-position-preserved : goal.loop-position-preserved
loop-position-preserved c =
    let task = c.args.task.now in
    rw c.in_ok-push.ensures.items (one_more_row task.scenario.now task.settings task.first c.loop-position.position c.loop-position.rows.items c.in_ok-row_at.field-0 c.loop-position.invariant c.in_ok-row_at.ensures.row)
