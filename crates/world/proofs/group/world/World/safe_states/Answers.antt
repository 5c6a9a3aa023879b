use Rattle.std.proofs.Common.{subst}
use Rattle.world.specs.GroupClaims.{SafeGroupStates}
use Rattle.world.proofs.GroupRuns.{safe_group_states}
use Rattle.world.proofs.group.world.World.safe_states.Goals as goal

pub returns : goal.returns
returns c = subst SafeGroupStates c.self.view_is (safe_group_states _ c.self.invariant c.limits_are_kept.ensures c.states_are_safe.ensures)
