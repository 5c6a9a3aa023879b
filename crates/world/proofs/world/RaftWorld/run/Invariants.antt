use Rattle.std.proofs.Common.{take}
use Rattle.world.specs.Events.{world_events}
use Rattle.world.specs.Steps.{Played}
use Rattle.world.proofs.world.RaftWorld.run.Given as goal

abbrev pub invariant-loop-event : goal.invariant-loop-event
invariant-loop-event g l = Played g.M.Machine.spec l.n (world_events (take l.event-index l.events)) l.world
