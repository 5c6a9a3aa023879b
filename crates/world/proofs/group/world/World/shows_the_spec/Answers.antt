use Rattle.std.proofs.Common.{subst}
use Rattle.world.specs.GroupShown.{ShownBySpec}
use Rattle.world.proofs.GroupShown.{shown_by_spec}
use Rattle.world.proofs.group.world.World.shows_the_spec.Goals as goal

pub returns : goal.returns
returns c = subst ShownBySpec c.self.view_is (shown_by_spec _ c.self.invariant c.limits_are_kept.ensures c.every_run_shows_the_spec.ensures)
