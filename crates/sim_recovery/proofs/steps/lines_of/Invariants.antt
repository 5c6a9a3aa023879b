use Rattle.std.proofs.Common.{◌≡◌, map, string_bytes, take}
use Rattle.std.specs.List.{AllByRecursion}
use Rattle.group_inputs.specs.Events.{group_events}
use Rattle.event_texts.specs.EventLines.{HasLine, event_line}
use Rattle.sim_recovery.proofs.steps.lines_of.Given as goal

-- the lines of the events so far
abbrev pub invariant-loop-event : goal.invariant-loop-event
invariant-loop-event l = record {
  have : AllByRecursion HasLine (group_events (take l.event-index l.events));
  lines : map string_bytes l.lines.items ≡ map event_line (group_events (take l.event-index l.events));
}
