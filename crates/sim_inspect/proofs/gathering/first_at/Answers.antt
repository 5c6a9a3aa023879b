use Rattle.std.proofs.Common.{rules}
use Rattle.sim_inspect.proofs.AppliedNumbers.{none_more}
use Rattle.sim_inspect.proofs.gathering.first_at.Goals as goal

pub loop-place-preserved : goal.loop-place-preserved
loop-place-preserved c =
    none_more c.args.applied c.args.world.now.servers c.loop-place.place (search rules) c.loop-place.invariant (search rules)
