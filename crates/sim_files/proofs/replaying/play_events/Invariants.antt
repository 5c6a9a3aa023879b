use Rattle.std.proofs.Common.{◌≡◌, ◌≤◌, ◌++◌, map}
use Rattle.std.specs.List.{AllByRecursion}
use Rattle.std.specs.Vec.Iter.{into_iter_items}
use Rattle.event_texts.specs.EventLines.{HasLine, event_line}
use Rattle.event_texts.specs.Transcripts.{lines_text}
use Rattle.group_inputs.specs.Events.{group_events}
use Rattle.sim_files.specs.Inner.Replayed.{TellsEvents}
use Rattle.sim_files.proofs.replaying.play_events.Given as goal

-- what became of the events so far, and the lines of the others
abbrev pub invariant-loop-event : goal.invariant-loop-event
invariant-loop-event g l = record {
  most : l.status ≤ 1;
  quiet : l.status ≡ 0 → l.out ≡ l.fn.out;
  all : l.yielded ++ into_iter_items l.event-iterator ≡ l.fn.events.items;
  have : AllByRecursion HasLine (group_events (into_iter_items l.event-iterator));
  rest : l.rest ≡ lines_text (map event_line (group_events (into_iter_items l.event-iterator)));
  told : TellsEvents (group_events l.yielded) l.fn.world l.world l.status (g.W.Write.contents l.fn.out) (g.W.Write.contents l.out);
}
