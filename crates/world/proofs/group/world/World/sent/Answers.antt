use Rattle.std.proofs.Common.{subst}
use Rattle.world.specs.GroupView.{GroupView}
use Rattle.world.specs.GroupShown.{OfTheLast, CarryDeliveries}
use Rattle.world.proofs.GroupShown.{sent_shown}
use Rattle.world.proofs.group.world.World.sent.Goals as goal

pub returns-clause-shown : goal.returns-clause-shown
returns-clause-shown c = rw c.sent.ensures (subst (λ (v : GroupView). OfTheLast v (λ now. CarryDeliveries c.self.inside.history.outbox.frames now)) c.self.view_is (sent_shown _ c.self.invariant))
