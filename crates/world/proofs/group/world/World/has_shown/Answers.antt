use Rattle.std.proofs.Common.{subst}
use Rattle.world.specs.GroupShown.{ShownSoFar}
use Rattle.world.proofs.GroupShown.{shown_so_far}
use Rattle.world.proofs.group.world.World.has_shown.Goals as goal

pub returns : goal.returns
returns c = subst ShownSoFar c.self.view_is (shown_so_far _ c.self.invariant)
