use Rattle.std.proofs.Common.{◌≡◌, ◌∙◌, ◌-◌, ◌≤◌, ◌++◌, ◌∷◌, ℕ, List, [], ap, arith, inl, inr, length, map, refl, rules, subst}
use Rattle.std.proofs.lemmas.List.{append-nil, length-append, nil_from_length}
use Rattle.group_inputs.specs.Events.{group_events}
use Rattle.event_texts.specs.EventLines.{event_line}
use Rattle.event_texts.specs.Transcripts.{IsFault, IsTranscript, MayFollow, Recorded, at_first, at_line, lines_text, transcript_lines}
use Rattle.event_texts.proofs.Lines.{nodes_kept, whole}
use Rattle.event_texts.proofs.reading.read.Goals as goal

pub returns-in_default-clause-refused : goal.returns-in_default-clause-refused
returns-in_default-clause-refused c =
    inr (0, refl, at_first c.in_default.ensures.read, λ r t. c.in_default.ensures.read r.servers _ t.can.servers t.is)

pub returns-then-not-is_empty-clause-refused : goal.returns-then-not-is_empty-clause-refused
returns-then-not-is_empty-clause-refused c =
    let bytes = c.args.bytes.now in
    let rest = c.in_ok-events.rest.now in
    let r : Recorded = record { servers = c.in-Some.servers; nodes = c.in_ok-nodes.nodes.items; events = group_events c.in_ok-events.events.items } in
    let front = lines_text (transcript_lines r) in
    let is : bytes ≡ front ++ rest = whole r bytes c.in-Some.lines.now c.in_ok-nodes.lines.now rest c.in-Some.ensures.named.1 c.in_ok-nodes.ensures.front c.in_ok-events.ensures.front in
    let at : length front ≡ length bytes - length rest = omega (arith, ap (λ (text : List ℕ). length text) is, length-append front rest) in
    let some : 1 ≤ length rest = search rules in
    let transcript : IsTranscript r front = record {
      can = record { servers = c.in-Some.ensures.named.0; nodes = c.in_ok-nodes.ensures.numbered; events = c.in_ok-events.ensures.lines };
      is = refl;
    } in
    let stops : (line behind : List ℕ) → MayFollow r line → rest ≡ line ++ 10 ∷ behind → ⊥ = λ line behind may first.
    elim may [
      | inl (node, fits, number, none, same) ↦
          let bare : c.in_ok-nodes.lines.now ≡ rest = c.in_ok-events.ensures.front ∙ ap (λ events. lines_text (map event_line events) ++ rest) none in
          c.in_ok-nodes.ensures.stops node behind fits number (bare ∙ first ∙ ap (λ l. l ++ 10 ∷ behind) same)
      | inr (event, line_is) ↦ c.in_ok-events.ensures.stops event behind line_is.0 (first ∙ ap (λ l. l ++ 10 ∷ behind) line_is.1)
    ] in
    inr (
      length bytes - length rest,
      refl,
      subst (IsFault bytes) at (at_line r front rest transcript is some stops),
      λ other t.
          let servers = c.in-Some.ensures.read other.servers _ t.can.servers t.is in
          let nodes = c.in_ok-nodes.ensures.read other.nodes other.events t.can.nodes t.can.events servers.1 in
          let events = c.in_ok-events.ensures.read other.events t.can.events nodes.1 in
          let none : length rest ≡ 0 = ap (λ (text : List ℕ). length text) events.1 in
          omega arith,
    )

pub returns-clause-named : goal.returns-clause-named
returns-clause-named c =
    let rest = c.in_ok-events.rest.now in
    let r : Recorded = record { servers = c.in-Some.servers; nodes = c.in_ok-nodes.nodes.items; events = group_events c.in_ok-events.events.items } in
    let is = whole r c.args.bytes.now c.in-Some.lines.now c.in_ok-nodes.lines.now rest c.in-Some.ensures.named.1 c.in_ok-nodes.ensures.front c.in_ok-events.ensures.front in
    let count : length rest ≡ 0 = search rules in
    let none : rest ≡ [] = nil_from_length rest count in
    record {
      can = record { servers = c.in-Some.ensures.named.0; nodes = c.in_ok-nodes.ensures.numbered; events = c.in_ok-events.ensures.lines };
      is = is ∙ ap (λ text. lines_text (transcript_lines r) ++ text) none ∙ append-nil (lines_text (transcript_lines r));
    }

pub returns-in_err-events-clause-memory : goal.returns-in_err-events-clause-memory
returns-in_err-events-clause-memory c wanting =
    let nodes = c.in_ok-nodes in
    record {
      servers = c.in-Some.servers;
      lines = c.in-Some.lines.now;
      group = c.in-Some.ensures.named.0;
      kept = nodes_kept nodes.nodes.items c.in-Some.lines.now nodes.lines.now nodes.ensures.numbered nodes.ensures.front (λ _. c.in_err-events.ensures.memory);
      is = c.in-Some.ensures.named.1;
    }
