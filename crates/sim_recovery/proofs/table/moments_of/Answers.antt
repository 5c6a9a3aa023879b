use Rattle.sim_recovery.proofs.Moments.{multiples_more}
use Rattle.sim_recovery.proofs.table.moments_of.Goals as goal

pub loop-after-preserved : goal.loop-after-preserved
loop-after-preserved c =
    multiples_more c.args.every c.loop-after.after c.loop-after.moments.items c.put_multiple.new.moments.items c.loop-after.invariant
    c.in_ok-put_multiple.ensures.multiple c.in_ok-put_multiple.ensures.other
