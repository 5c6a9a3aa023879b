use Rattle.std.proofs.Common.{subst}
use Rattle.world.specs.GroupClaims.{GroupHeadline}
use Rattle.world.proofs.GroupRuns.{group_headline}
use Rattle.world.proofs.group.world.World.headline.Goals as goal

pub returns : goal.returns
returns c =
    let l = c.one_list.ensures in
    subst GroupHeadline c.self.view_is (group_headline _ c.self.invariant c.limits_are_kept.ensures l.exists l.long c.states_are_safe.ensures c.plans_are_backed.ensures c.starts_are_placed.ensures)
