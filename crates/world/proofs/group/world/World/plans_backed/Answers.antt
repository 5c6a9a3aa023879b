use Rattle.std.proofs.Common.{subst}
use Rattle.world.specs.GroupClaims.{BackedPlans}
use Rattle.world.proofs.GroupRuns.{backed_group_plans}
use Rattle.world.proofs.group.world.World.plans_backed.Goals as goal

pub returns : goal.returns
returns c = subst BackedPlans c.self.view_is (backed_group_plans _ c.self.invariant c.limits_are_kept.ensures c.plans_are_backed.ensures)
