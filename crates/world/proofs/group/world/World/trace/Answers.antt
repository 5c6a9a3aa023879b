use Rattle.std.proofs.Common.{length, subst}
use Rattle.std.specs.List.{AllByRecursion}
use Rattle.world.specs.GroupView.{GroupView}
use Rattle.world.specs.GroupClaims.{IsTraced}
use Rattle.world.proofs.GroupTraces.{group_traced}
use Rattle.world.proofs.group.world.World.trace.Goals as goal

pub returns-clause-own : goal.returns-clause-own
returns-clause-own c = subst (λ (v : GroupView). AllByRecursion (IsTraced (length v.outbox.frames)) v.trace) c.self.view_is (group_traced _ c.self.invariant)
