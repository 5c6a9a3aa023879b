use Rattle.std.proofs.Common.{◌≡◌, ◌∙◌, ◌++◌, ◌∷◌, ℕ, suc, List, [], ap, arith, length, map, refl, rules, subst, sym}
use Rattle.std.proofs.lemmas.List.{append-nil, append_assoc, length_push, map-append}
use Rattle.rows.specs.Fits.{NodeSpecFits}
use Rattle.rows.specs.declared.node.NodeSpec.{NodeSpec}
use Rattle.event_texts.specs.Transcripts.{AreNumberedFrom, BeginsKept, node_line, of_node}
use Rattle.event_texts.proofs.Lines.{next_node, no_next_node, nodes_kept, one_more_line, one_more_node, rest_of}
use Rattle.event_texts.proofs.Wanting.{if_wanting}
use Rattle.event_texts.proofs.reading.read_nodes.Goals as goal

pub loop-node-preserved : goal.loop-node-preserved
loop-node-preserved c =
    let before = c.loop-node.invariant in
    let items = c.loop-node.nodes.items in
    let rest = c.loop-node.rest.now in
    let behind = c.in-Some.behind.now in
    let node = c.in-Some.node in
    let count : c.len.result ≡ length items = search rules in
    let named = c.in-Some.ensures.named in
    let read : (m : NodeSpec) (b : List ℕ) → NodeSpecFits m → m.number ≡ suc (length items) → rest ≡ node_line m ++ 10 ∷ b → (node ≡ m) × (behind ≡ b) =
    λ m b fits number is. c.in-Some.ensures.read m b fits (number ∙ ap suc (sym count)) is in
    let pushed : c.push.new.self.items ≡ items ++ node ∷ [] = search rules in
    let size : length c.push.new.self.items ≡ suc (length items) = omega (arith, ap (λ (ns : List NodeSpec). length ns) pushed, length_push items node) in
    record {
      numbered = rw pushed (one_more_node 1 items node before.numbered named.0 (omega (arith, named.1, count)));
      front = rw (pushed, map-append node_line items (node ∷ []))
          (one_more_line c.args.text.now rest behind (node_line node) (map node_line items) before.front named.2);
      toward = λ ns events are have is.
          let here = before.toward ns events are have is in
          let next = next_node (suc (length items)) here.0 events node rest behind here.2 have here.3 named.2 read in
          let same : ns ≡ c.push.new.self.items ++ next.0 =
          here.1
          ∙ ap (λ more. items ++ more) next.1
          ∙ sym (append_assoc items (node ∷ []) next.0)
          ∙ ap (λ front. front ++ next.0) (sym pushed) in
          (next.0, same, subst (λ k. AreNumberedFrom (suc k) next.0) (sym size) next.2, next.3);
    }

pub returns-clause-read : goal.returns-clause-read
returns-clause-read c nodes events are have is =
    let items = c.loop-node.nodes.items in
    let here = c.loop-node.invariant.toward nodes events are have is in
    let count : c.len.result ≡ length items = search rules in
    let none : (m : NodeSpec) (b : List ℕ) → NodeSpecFits m → m.number ≡ suc (length items) → c.loop-node.rest.now ≡ node_line m ++ 10 ∷ b → ⊥ =
    λ m b fits number first. c.in_default.ensures.read m b fits (number ∙ ap suc (sym count)) first in
    let empty = no_next_node (suc (length items)) here.0 events c.loop-node.rest.now here.2 here.3 none in (
      sym (here.1 ∙ ap (λ more. items ++ more) empty ∙ append-nil items),
      here.3 ∙ ap (λ more. rest_of more events) empty,
    )

pub returns-in_err-push-clause-memory : goal.returns-in_err-push-clause-memory
returns-in_err-push-clause-memory c =
    let before = c.loop-node.invariant in
    let items = c.loop-node.nodes.items in
    let node = c.in-Some.node in
    let count : c.len.result ≡ length items = search rules in
    let named = c.in-Some.ensures.named in
    let first : length items ≡ 0 → BeginsKept c.loop-node.rest.now = λ none. record {
      line = node_line node;
      behind = c.in-Some.behind.now;
      kept = of_node node named.0 (omega (arith, named.1, count)) refl;
      is = named.2;
    } in
    if_wanting c.from_residual.result (nodes_kept items c.args.text.now c.loop-node.rest.now before.numbered before.front first)
