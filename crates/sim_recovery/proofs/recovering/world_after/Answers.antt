use Rattle.std.proofs.Common.{◌<◌, length, rules, take}
use Rattle.group_inputs.specs.Events.{group_event, group_events}
use Rattle.sim_recovery.proofs.Moments.{came_more, events_more}
use Rattle.sim_recovery.proofs.recovering.world_after.Goals as goal

pub loop-event-preserved : goal.loop-event-preserved
loop-event-preserved c =
    let events = c.args.events.now in
    let i = c.loop-event.event-index in
    let event = c.event-item.result in
    let lt : i < length events = search rules in
    rw (events_more events i event lt c.event-item.is)
    (came_more (group_events (take i events)) (group_event event) c.args.world c.loop-event.world c.come.new.world c.in_ok-come.field-0 c.loop-event.invariant c.in_ok-come.ensures)
