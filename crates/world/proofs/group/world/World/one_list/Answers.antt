use Rattle.std.proofs.Common.{subst}
use Rattle.world.specs.GroupClaims.{OneGroupList}
use Rattle.world.proofs.GroupRuns.{one_group_list}
use Rattle.world.proofs.group.world.World.one_list.Goals as goal

pub returns : goal.returns
returns c =
    let l = c.one_list.ensures in
    subst OneGroupList c.self.view_is (one_group_list _ c.self.invariant c.limits_are_kept.ensures l.exists l.long)
