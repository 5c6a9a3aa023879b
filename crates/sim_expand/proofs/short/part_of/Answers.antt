use Rattle.std.proofs.Common.{◌≡◌, Err, None, inl, inr, refl, rules}
use Rattle.serde_json.specs.Find.{as_str}
use Rattle.serde_json.specs.View.{view}
use Rattle.sim_expand.proofs.Shorts.{is_string, neither, no_step_of}
use Rattle.sim_expand.proofs.short.part_of.Goals as goal

pub returns-in_err-step_of-in-Some-clause-refused : goal.returns-in_err-step_of-in-Some-clause-refused
returns-in_err-step_of-in-Some-clause-refused c =
    let text = is_string (view c.args.value.now) c.in-Some.line.now (search rules) in
    let same : c.from_residual.result ≡ Err c.in_err-step_of-in-Some.field-0.0 = search rules in
    rw same (elim c.in_err-step_of-in-Some.ensures.refused [
      | inl memory ↦ inl memory
      | inr none ↦ inr (none.0, λ depth steps. no_step_of (view c.args.value.now) c.in-Some.line.now text none.1 depth steps)
    ])

pub returns-in-None-repeat_of-clause-refused : goal.returns-in-None-repeat_of-clause-refused
returns-in-None-repeat_of-clause-refused c =
    let none : as_str (view c.args.value.now) ≡ None = search rules in
    inr (refl, neither (view c.args.value.now) none c.in-None-repeat_of.ensures)
