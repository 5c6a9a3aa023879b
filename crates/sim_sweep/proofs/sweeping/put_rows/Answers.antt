use Rattle.sim_sweep.proofs.Places.{found_still, placed_more}
use Rattle.sim_sweep.proofs.sweeping.put_rows.Goals as goal

pub loop-placed-preserved : goal.loop-placed-preserved
loop-placed-preserved c =
    let placed = c.placed-item.result in
    record {
      found = c.put_row.ensures.found;
      put = rw c.put_row.ensures.put (placed_more c.args.rows.now c.loop-placed.placed-index placed c.loop-placed.found c.loop-placed-test.true c.placed-item.is c.loop-placed.invariant.put);
      kept = rw c.put_row.ensures.put (found_still c.args.found.now c.loop-placed.found placed.position placed.row c.loop-placed.invariant.kept);
    }
