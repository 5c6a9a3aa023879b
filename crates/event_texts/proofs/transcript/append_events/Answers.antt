use Rattle.std.proofs.Common.{◌≡◌, ◌∙◌, ◌+◌, ◌<◌, ◌++◌, ◌∷◌, [], ap, arith, length, map, rules, subst, sym, take}
use Rattle.std.proofs.lemmas.List.{append_assoc, get_or-map, length-map, map-append}
use Rattle.group_inputs.specs.Events.{group_event, group_events}
use Rattle.event_texts.specs.EventLines.{HasLine, IsSayable, event_line}
use Rattle.event_texts.proofs.CommaLists.{more_fit}
use Rattle.event_texts.proofs.Records.{at_index, map_more, one_more_written}
use Rattle.event_texts.proofs.transcript.append_events.Goals as goal

pub push_event-requires : goal.push_event-requires
push_event-requires c =
    let events = c.args.events.now in
    let i = c.loop-event.event-index in
    let event = c.event-item.result in
    let lt : i < length events = search rules in
    let here = at_index IsSayable (group_events events) i (group_event event) c.requires (omega (arith, length-map events group_event)) in
    subst IsSayable (get_or-map group_event events i event (group_event event) lt ∙ ap group_event (sym c.event-item.is)) here

pub loop-event-preserved : goal.loop-event-preserved
loop-event-preserved c =
    let events = c.args.events.now in
    let i = c.loop-event.event-index in
    let event = group_event c.event-item.result in
    let lt : i < length events = search rules in
    let before = group_events (take i events) in
    let grown : group_events (take (i + 1) events) ≡ before ++ event ∷ [] = map_more group_event events i c.event-item.result lt c.event-item.is in
    let said : HasLine event × (c.push_event.new.text.items ≡ c.loop-event.out.items ++ event_line event) = search rules in
    let pushed : c.push.new.self.items ≡ c.push_event.new.text.items ++ 10 ∷ [] = search rules in
    let written : c.push.new.self.items ≡ c.loop-event.out.items ++ (event_line event ++ 10 ∷ []) =
    pushed ∙ ap (λ text. text ++ 10 ∷ []) said.1 ∙ append_assoc c.loop-event.out.items (event_line event) (10 ∷ []) in
    record {
      have = rw grown (more_fit HasLine before event c.loop-event.invariant.have said.0);
      text = rw (grown, map-append event_line before (event ∷ []))
          (one_more_written c.args.out.now.items c.loop-event.out.items c.push.new.self.items (event_line event) (map event_line before) c.loop-event.invariant.text written);
    }
