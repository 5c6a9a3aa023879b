use Rattle.std.proofs.Common.{◌≡◌, ◌∙◌, Err, false, inl, inr, map, refl, rules, string_bytes, subst, sym, true≢false}
use Rattle.sim_expand.specs.Plains.{IsPlainOf}
use Rattle.sim_expand.proofs.Plains.{is_plain_of}
use Rattle.sim_expand.proofs.Texts.{same_scenario}
use Rattle.sim_expand.proofs.plain.plain_text.Goals as goal

pub returns-clause-ok : goal.returns-clause-ok
returns-clause-ok c =
    let same = c.if-not-is_of.ensures.0 (search rules) in
    record {
      scenario = c.in_ok-read.read;
      read = same_scenario _ _ _ c.as_str.ensures.value c.in_ok-read.ensures.ok;
      has_settings = same.0;
      has_nodes = same.1;
      has_lines = same.2;
    }

pub returns-in_err-read-clause-refused : goal.returns-in_err-read-clause-refused
returns-in_err-read-clause-refused c =
    let same : c.from_residual-in_err-read.result ≡ Err c.in_err-read.field-0.0 = search rules in
    let form = c.as_str.ensures.value ∙ c.in_ok-text.ensures in
    rw same (elim c.in_err-read.ensures.refused [
      | inl memory ↦ inl memory
      | inr none ↦ inr (none.0, λ of. none.1 of.scenario (same_scenario _ _ of.scenario (sym form) of.read))
    ])

pub returns-then-not-is_of-clause-refused : goal.returns-then-not-is_of-clause-refused
returns-then-not-is_of-clause-refused c =
    let lines = map string_bytes c.args.lines.now in
    let form = c.as_str.ensures.value ∙ c.in_ok-text.ensures in
    inr (
      refl,
      λ of.
          let own = subst (λ text. IsPlainOf text c.args.settings c.args.nodes.now lines) (sym form) of in
          let yes = c.is_of.ensures.1 (is_plain_of c.as_str.result.now c.in_ok-read.read c.args.settings c.args.nodes.now lines c.in_ok-read.ensures.ok own) in
          let no : c.is_of.result ≡ false = search rules in
          absurd (true≢false (sym yes ∙ no)),
    )
