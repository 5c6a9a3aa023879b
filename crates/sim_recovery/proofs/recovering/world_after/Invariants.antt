use Rattle.std.proofs.Common.{take}
use Rattle.group_inputs.specs.Events.{group_events}
use Rattle.sim_recovery.specs.Recoveries.{AllCame}
use Rattle.sim_recovery.proofs.recovering.world_after.Given as goal

-- the events so far came
abbrev pub invariant-loop-event : goal.invariant-loop-event
invariant-loop-event l = AllCame (group_events (take l.event-index l.events)) l.fn.world l.world
