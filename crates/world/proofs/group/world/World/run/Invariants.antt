use Rattle.std.proofs.Common.{take}
use Rattle.group_inputs.specs.Events.{group_events}
use Rattle.world.specs.GroupSteps.{GroupPlayed}
use Rattle.world.proofs.group.world.World.run.Given as goal

abbrev pub invariant-loop-event : goal.invariant-loop-event
invariant-loop-event l = GroupPlayed l.n l.nodes (group_events (take l.event-index l.events)) l.world
