use Rattle.std.proofs.Common.{◌≡◌, ◌∙◌, ◌++◌, ◌∷◌, [], ap, append_assoc, arith, map, rules, subst, sym}
use Rattle.std.specs.List.{AllByRecursion}
use Rattle.std.specs.Vec.Iter.{into_iter_items}
use Rattle.std.proofs.lemmas.List.{map-append}
use Rattle.event_texts.specs.EventLines.{HasLine, event_line}
use Rattle.event_texts.specs.Transcripts.{lines_text}
use Rattle.event_texts.proofs.Printable.{event_printable}
use Rattle.group_inputs.specs.Events.{group_event, group_events}
use Rattle.sim_files.proofs.Replays.{event_done, event_refused}
use Rattle.sim_files.proofs.replaying.play_events.Goals as goal

pub loop-event-preserved-in-Ok-Taken : goal.loop-event-preserved-in-Ok-Taken
loop-event-preserved-in-Ok-Taken g c =
    let contents = g.W.Write.contents in
    let was = c.loop-event.invariant in
    let yielded = c.loop-event.yielded in
    let event = c.in-Some.event in
    let left = into_iter_items c.next.new.self in
    let next : into_iter_items c.loop-event.event-iterator ≡ event ∷ left = search rules in
    let have : HasLine (group_event event) × AllByRecursion HasLine (group_events left) = subst (λ xs. AllByRecursion HasLine (group_events xs)) next was.have in
    let is = was.rest ∙ ap (λ xs. lines_text (map event_line (group_events xs))) next in
    let line = c.next_line.ensures (event_line (group_event event)) (lines_text (map event_line (group_events left))) (event_printable (group_event event) have.0) is in
    record {
      most = was.most;
      quiet = was.quiet;
      all = append_assoc yielded (event ∷ []) left ∙ ap (λ xs. yielded ++ xs) (sym next) ∙ was.all;
      have = have.1;
      rest = line.1;
      told =
          rw (map-append group_event yielded (event ∷ []))
          (event_done (group_events yielded) (group_event event) c.args.world.now c.loop-event.world c.step.new.self c.loop-event.status
          (contents c.args.out.now) (contents c.loop-event.out) (search rules) was.told);
    }

pub loop-event-preserved : goal.loop-event-preserved
loop-event-preserved g c =
    let contents = g.W.Write.contents in
    let was = c.loop-event.invariant in
    let yielded = c.loop-event.yielded in
    let event = c.in-Some.event in
    let left = into_iter_items c.next.new.self in
    let next : into_iter_items c.loop-event.event-iterator ≡ event ∷ left = search rules in
    let have : HasLine (group_event event) × AllByRecursion HasLine (group_events left) = subst (λ xs. AllByRecursion HasLine (group_events xs)) next was.have in
    let is = was.rest ∙ ap (λ xs. lines_text (map event_line (group_events xs))) next in
    let line = c.next_line.ensures (event_line (group_event event)) (lines_text (map event_line (group_events left))) (event_printable (group_event event) have.0) is in
    record {
      most = omega arith;
      quiet = λ none. cc;
      all = append_assoc yielded (event ∷ []) left ∙ ap (λ xs. yielded ++ xs) (sym next) ∙ was.all;
      have = have.1;
      rest = line.1;
      told =
          rw (map-append group_event yielded (event ∷ []))
          (event_refused (group_events yielded) (group_event event) c.args.world.now c.loop-event.world c.step.new.self c.loop-event.status c.in-Err.refusal
          (contents c.args.out.now) (contents c.loop-event.out) (contents c.print_refusal.new.out) ((rw c.in-Err.is at c.step.ensures.cause) c.in_ok-print_refusal-in-Err.ensures.refused) (search rules) was.told
          (rw line.0 at c.in_ok-print_refusal-in-Err.ensures.line));
    }
