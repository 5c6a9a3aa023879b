use Rattle.std.proofs.Common.{◌∙◌, ◌<◌, ◌++◌, ◌∷◌, [], List, ℕ, ap, arith, length, map, rules, string_bytes, subst, sym, take}
use Rattle.std.proofs.lemmas.List.{get_or-map, length-map, map-append}
use Rattle.group_inputs.specs.Events.{group_event, group_events}
use Rattle.event_texts.specs.EventLines.{HasLine, event_line}
use Rattle.event_texts.proofs.Records.{at_index}
use Rattle.sim_recovery.specs.Inner.Steps.{IsStep}
use Rattle.sim_recovery.proofs.WaySteps.{all_append}
use Rattle.sim_recovery.proofs.Moments.{events_more}
use Rattle.sim_recovery.proofs.steps.lines_of.Goals as goal

pub step_line-requires : goal.step_line-requires
step_line-requires c =
    let events = c.args.events.now in
    let i = c.loop-event.event-index in
    let event = c.event-item.result in
    let lt : i < length events = search rules in
    let here = at_index IsStep (group_events events) i (group_event event) c.requires (omega (arith, length-map events group_event)) in
    subst IsStep (get_or-map group_event events i event (group_event event) lt ∙ ap group_event (sym c.event-item.is)) here

pub loop-event-preserved : goal.loop-event-preserved
loop-event-preserved c =
    let events = c.args.events.now in
    let i = c.loop-event.event-index in
    let event = c.event-item.result in
    let lt : i < length events = search rules in
    let before = group_events (take i events) in
    let line = c.in_ok-step_line.field-0 in
    let grown = events_more events i event lt c.event-item.is in
    let was = c.loop-event.invariant in
    record {
      have = rw grown (all_append HasLine before (group_event event ∷ []) was.have (c.in_ok-step_line.ensures.has, tt));
      lines = ap (map string_bytes) c.in_ok-push.ensures.items
          ∙ map-append string_bytes c.loop-event.lines.items (line ∷ [])
          ∙ ap (λ (xs : List (List ℕ)). xs ++ string_bytes line ∷ []) was.lines
          ∙ ap (λ (own : List ℕ). map event_line before ++ own ∷ []) c.in_ok-step_line.ensures.line
          ∙ sym (map-append event_line before (group_event event ∷ []))
          ∙ ap (map event_line) (sym grown);
    }
