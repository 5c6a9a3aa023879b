use Rattle.std.proofs.Common.{subst}
use Rattle.world.specs.GroupClaims.{PlacedStarts}
use Rattle.world.proofs.GroupRuns.{placed_group_starts}
use Rattle.world.proofs.group.world.World.starts_placed.Goals as goal

pub returns : goal.returns
returns c = subst PlacedStarts c.self.view_is (placed_group_starts _ c.self.invariant c.limits_are_kept.ensures c.starts_are_placed.ensures)
