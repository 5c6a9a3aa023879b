use Rattle.std.proofs.Common.{subst}
use Rattle.world.specs.GroupClaims.{GroupRecoversEver}
use Rattle.world.proofs.Recoveries.{group_recovers_ever}
use Rattle.world.proofs.group.world.World.recovers.Goals as goal

pub returns : goal.returns
returns c = subst GroupRecoversEver c.self.view_is (group_recovers_ever _ c.self.invariant c.limits_are_kept.ensures c.never_stuck.ensures c.each_group_recovers.ensures)
