use Rattle.std.proofs.Common.{subst}
use Rattle.world.specs.GroupView.{ServersKnowNumbers}
use Rattle.world.proofs.group.world.World.size.Goals as goal

pub returns-clause-places : goal.returns-clause-places
returns-clause-places c = subst ServersKnowNumbers c.self.view_is c.self.invariant.servers
