use Rattle.std.proofs.Common.{◌≡◌, Err, inl, inr, map, refl, rules, sym}
use Rattle.serde_json.specs.View.{items_of, items_view, view}
use Rattle.sim_scenario.proofs.Objects.{same_items}
use Rattle.sim_expand.specs.ShortSteps.{short_step}
use Rattle.sim_expand.proofs.short.short_scenario_of.Goals as goal

pub returns-clause-ok : goal.returns-clause-ok
returns-clause-ok c = record {
  settings = c.in-Some.ensures;
  nodes = (map view c.in-Some-list_of.nodes.now.items, sym c.in-Some-list_of.ensures, rw c.deref.ensures.value at c.in_ok-nodes.ensures.ok);
  steps =
      let total = rw c.deref-2.ensures.value at c.in_ok-total.ensures.ok in
      (map view c.in-Some-list_of-2.steps.now.items, sym c.in-Some-list_of-2.ensures, rw (total.2.1 refl) total.1);
}

pub returns-in_err-nodes-clause-refused : goal.returns-in_err-nodes-clause-refused
returns-in_err-nodes-clause-refused c =
    let same : c.from_residual.result ≡ Err c.in_err-nodes.field-0.0 = search rules in
    rw same (elim c.in_err-nodes.ensures.refused [
      | inl memory ↦ inl memory
      | inr none ↦ inr (
        none.0,
        λ s is.
            let items : items_view c.in-Some-list_of.nodes.now.items ≡ items_of is.nodes.0 = search (rules, is.nodes) in
            let same : map view c.deref.result.now ≡ is.nodes.0 = search (rules, same_items _ _ items) in
            none.1 s.nodes.items (rw same is.nodes.2),
      )
    ])

pub returns-in_err-total-clause-refused : goal.returns-in_err-total-clause-refused
returns-in_err-total-clause-refused c =
    let same : c.from_residual-in_err-total.result ≡ Err c.in_err-total.field-0.0 = search rules in
    rw same (elim c.in_err-total.ensures.refused [
      | inl memory ↦ inl memory
      | inr none ↦ inr (
        none.0,
        λ s is.
            let items : items_view c.in-Some-list_of-2.steps.now.items ≡ items_of is.steps.0 = search (rules, is.steps) in
            let same : map view c.deref-2.result.now ≡ is.steps.0 = search (rules, same_items _ _ items) in
            none.1 (map short_step s.steps.items) (rw same is.steps.2),
      )
    ])
