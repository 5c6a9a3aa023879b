use Rattle.std.proofs.Common.{◌≡◌, ◌∙◌, ◌+◌, ◌<◌, ◌++◌, ◌∷◌, [], ap, arith, get_or, inr, length, map, refl, rules, sym, take}
use Rattle.std.proofs.lemmas.List.{get_or-map, length-map, length-take-le, map-append, take_more}
use Rattle.serde_json.specs.View.{view}
use Rattle.sim_scenario.proofs.Objects.{node_at, node_count, one_more_node}
use Rattle.sim_scenario.proofs.scenario.nodes_of.Goals as goal

pub returns-in_default-clause-refused : goal.returns-in_default-clause-refused
returns-in_default-clause-refused c =
    let xs = c.args.list.now in
    let i = c.loop-value.value-index in
    let v = c.value-item.result in
    let lt : i < length xs = search rules in
    let at : get_or (map view xs) i (view v) ≡ view v = get_or-map view xs i v (view v) lt ∙ ap view (sym c.value-item.is) in
    let count : i ≡ length c.loop-value.nodes.items = sym (length-take-le i xs (omega arith)) ∙ sym (length-map (take i xs) view) ∙ node_count 1 _ _ c.loop-value.invariant in
    inr (
      refl,
      λ nodes are.
          let found = node_at 1 (map view xs) nodes i (view v) are (omega (arith, length-map xs view)) at in
          let number : found.0.number ≡ length c.loop-value.nodes.items + 1 = omega (arith, found.1, count) in
          search rules,
    )

pub loop-value-preserved : goal.loop-value-preserved
loop-value-preserved c =
    let xs = c.args.list.now in
    let i = c.loop-value.value-index in
    let v = c.value-item.result in
    let node = c.in-Some.node in
    let lt : i < length xs = search rules in
    let count : i ≡ length c.loop-value.nodes.items = sym (length-take-le i xs (omega arith)) ∙ sym (length-map (take i xs) view) ∙ node_count 1 _ _ c.loop-value.invariant in
    let taken : take (i + 1) xs ≡ take i xs ++ v ∷ [] = take_more xs i v lt ∙ ap (λ x. take i xs ++ x ∷ []) (sym c.value-item.is) in
    let pushed : c.push.new.self.items ≡ c.loop-value.nodes.items ++ node ∷ [] = search rules in
    rw (taken, pushed, map-append view (take i xs) (v ∷ []))
    (one_more_node 1 _ _ (view v) node c.loop-value.invariant (search rules) (search rules))
