use Rattle.std.proofs.Common.{◌≡◌, ◌++◌, map, take}
use Rattle.std.specs.List.{AllByRecursion}
use Rattle.group_inputs.specs.Events.{group_events}
use Rattle.event_texts.specs.EventLines.{HasLine, event_line}
use Rattle.event_texts.specs.Transcripts.{lines_text}
use Rattle.event_texts.proofs.transcript.append_events.Given as goal

abbrev pub invariant-loop-event : goal.invariant-loop-event
invariant-loop-event l = record {
  have : AllByRecursion HasLine (group_events (take l.event-index l.events));
  text : l.out.items ≡ l.fn.out.items ++ lines_text (map event_line (group_events (take l.event-index l.events)));
}
