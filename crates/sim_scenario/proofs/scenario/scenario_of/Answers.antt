use Rattle.std.proofs.Common.{◌≡◌, Err, inl, inr, map, rules, string_bytes}
use Rattle.serde_json.specs.View.{items_of, items_view, view}
use Rattle.sim_scenario.specs.Objects.{strings}
use Rattle.sim_scenario.proofs.Objects.{same_items}
use Rattle.sim_scenario.proofs.scenario.scenario_of.Goals as goal

pub returns-in_err-nodes-clause-refused : goal.returns-in_err-nodes-clause-refused
returns-in_err-nodes-clause-refused c =
    let same : c.from_residual.result ≡ Err c.in_err-nodes.field-0.0 = search rules in
    rw same (elim c.in_err-nodes.ensures.refused [
      | inl memory ↦ inl memory
      | inr none ↦ inr (
        none.0,
        λ s is.
            let items : items_view c.in-Some-list_of.nodes.now.items ≡ items_of is.nodes.0 = search (rules, is.nodes) in
            let same : map view c.deref.result.now ≡ is.nodes.0 = search (rules, same_items _ _ items) in
            none.1 s.nodes.items (rw same is.nodes.2),
      )
    ])

pub returns-in_err-steps-clause-refused : goal.returns-in_err-steps-clause-refused
returns-in_err-steps-clause-refused c =
    let same : c.from_residual-in_err-steps.result ≡ Err c.in_err-steps.field-0.0 = search rules in
    rw same (elim c.in_err-steps.ensures.refused [
      | inl memory ↦ inl memory
      | inr none ↦ inr (
        none.0,
        λ s is.
            let items : items_view c.in-Some-taken_list.steps.items ≡ items_of (strings (map string_bytes s.steps.items)) = search (rules, is.steps) in
            none.1 (map string_bytes s.steps.items) (search (rules, same_items _ _ items)),
      )
    ])
