use Rattle.std.proofs.Common.{length, subst}
use Rattle.rows.specs.GroupSizes.{IsGroup}
use Rattle.world.specs.GroupView.{GroupView}
use Rattle.world.proofs.group.world.World.size_is_3_or_5.Goals as goal

pub returns : goal.returns
returns c = let i = c.self.invariant in subst (λ (x : GroupView). IsGroup (length x.servers)) c.self.view_is i.size
