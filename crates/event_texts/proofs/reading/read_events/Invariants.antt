use Rattle.std.proofs.Common.{◌≡◌, ◌++◌, List, length, map}
use Rattle.std.specs.List.{AllByRecursion}
use Rattle.group_model.specs.Worlds.{Event}
use Rattle.group_inputs.specs.Events.{group_events}
use Rattle.event_texts.specs.EventLines.{HasLine, event_line}
use Rattle.event_texts.specs.Transcripts.{lines_text}
use Rattle.event_texts.proofs.reading.read_events.Given as goal

abbrev pub invariant-loop-events : goal.invariant-loop-events
invariant-loop-events l = record {
  lines : AllByRecursion HasLine (group_events l.events.items);
  front : l.text ≡ lines_text (map event_line (group_events l.events.items)) ++ l.rest;
  toward : (es : List Event) → AllByRecursion HasLine es → l.text ≡ lines_text (map event_line es)
      → (more : List Event) × (es ≡ group_events l.events.items ++ more) × AllByRecursion HasLine more × (l.rest ≡ lines_text (map event_line more));
}

abbrev pub decreases-loop-events : goal.decreases-loop-events
decreases-loop-events l = length l.rest
