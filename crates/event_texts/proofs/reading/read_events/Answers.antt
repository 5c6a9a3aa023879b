use Rattle.std.proofs.Common.{◌≡◌, ◌∙◌, ◌++◌, ◌∷◌, ℕ, List, [], ap, map, refl, rules, sym}
use Rattle.std.proofs.lemmas.List.{append-nil, append_assoc, map-append}
use Rattle.group_model.specs.Worlds.{Event}
use Rattle.group_inputs.specs.Events.{group_event, group_events}
use Rattle.event_texts.specs.EventLines.{HasLine, event_line}
use Rattle.event_texts.specs.Transcripts.{BeginsKept, lines_text, of_event}
use Rattle.event_texts.proofs.CommaLists.{more_fit}
use Rattle.event_texts.proofs.Lines.{events_kept, next_event, no_next_event, one_more_line}
use Rattle.event_texts.proofs.Wanting.{if_wanting}
use Rattle.event_texts.proofs.reading.read_events.Goals as goal

pub loop-events-preserved : goal.loop-events-preserved
loop-events-preserved c =
    let before = c.loop-events.invariant in
    let items = c.loop-events.events.items in
    let rest = c.loop-events.rest.now in
    let behind = c.in-Some.behind.now in
    let event = group_event c.in-Some.event in
    let named : HasLine event × (rest ≡ event_line event ++ 10 ∷ behind) = rw c.in-Some.is at c.in_ok-event.ensures.named in
    let read : (e : Event) (b : List ℕ) → HasLine e → rest ≡ event_line e ++ 10 ∷ b → (event ≡ e) × (behind ≡ b) =
    λ e b has is. rw c.in-Some.is at c.in_ok-event.ensures.read e b has is in
    let pushed : c.push.new.self.items ≡ items ++ c.in-Some.event ∷ [] = search rules in
    let grown : group_events c.push.new.self.items ≡ group_events items ++ event ∷ [] = ap group_events pushed ∙ map-append group_event items (c.in-Some.event ∷ []) in
    record {
      lines = rw grown (more_fit HasLine (group_events items) event before.lines named.0);
      front = rw (grown, map-append event_line (group_events items) (event ∷ []))
          (one_more_line c.args.text.now rest behind (event_line event) (map event_line (group_events items)) before.front named.1);
      toward = λ es have is.
          let here = before.toward es have is in
          let next = next_event here.0 event rest behind here.2 here.3 named.1 read in
          let same : es ≡ group_events c.push.new.self.items ++ next.0 =
          here.1
          ∙ ap (λ more. group_events items ++ more) next.1
          ∙ sym (append_assoc (group_events items) (event ∷ []) next.0)
          ∙ ap (λ front. front ++ next.0) (sym grown) in
          (next.0, same, next.2, next.3);
    }

pub returns-clause-read : goal.returns-clause-read
returns-clause-read c events have is =
    let items = c.loop-events.events.items in
    let here = c.loop-events.invariant.toward events have is in
    let none : (e : Event) (b : List ℕ) → HasLine e → c.loop-events.rest.now ≡ event_line e ++ 10 ∷ b → ⊥ =
    λ e b has first. rw c.in_default.is at c.in_ok-event.ensures.read e b has first in
    let empty = no_next_event here.0 c.loop-events.rest.now here.2 here.3 none in (
      sym (here.1 ∙ ap (λ more. group_events items ++ more) empty ∙ append-nil (group_events items)),
      here.3 ∙ ap (λ more. lines_text (map event_line more)) empty,
    )

pub returns-in_err-event-clause-memory : goal.returns-in_err-event-clause-memory
returns-in_err-event-clause-memory c =
    let before = c.loop-events.invariant in
    if_wanting c.from_residual.result
    (events_kept (group_events c.loop-events.events.items) c.args.text.now c.loop-events.rest.now before.lines before.front c.in_err-event.ensures.memory)

pub returns-in_err-push-clause-memory : goal.returns-in_err-push-clause-memory
returns-in_err-push-clause-memory c =
    let before = c.loop-events.invariant in
    let rest = c.loop-events.rest.now in
    let behind = c.in-Some.behind.now in
    let event = group_event c.in-Some.event in
    let named : HasLine event × (rest ≡ event_line event ++ 10 ∷ behind) = rw c.in-Some.is at c.in_ok-event.ensures.named in
    let first : BeginsKept rest = record { line = event_line event; behind = behind; kept = of_event event (named.0, refl); is = named.1 } in
    if_wanting c.from_residual-in_err-push.result
    (events_kept (group_events c.loop-events.events.items) c.args.text.now rest before.lines before.front first)
