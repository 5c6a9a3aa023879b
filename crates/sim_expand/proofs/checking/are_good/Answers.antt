use Rattle.std.proofs.Common.{◌≤◌, ◌<◌, IsTrue, length, refl, rules, subst, sym}
use Rattle.std.proofs.lemmas.List.{take_all}
use Rattle.std.proofs.lemmas.List.Elements.{All-more}
use Rattle.sim_expand.specs.declared.short.ShortStep.{ShortStep}
use Rattle.sim_expand.specs.Checked.{AreGood}
use Rattle.sim_expand.specs.ShortSteps.{short_step}
use Rattle.sim_expand.specs.Stops.{IsGoodShort}
use Rattle.sim_expand.proofs.checking.are_good.Goals as goal

abbrev Good : ShortStep → Type 0
Good step = IsGoodShort (short_step step)

pub returns-then-not-branch : goal.returns-then-not-branch
returns-then-not-branch c =
    let steps = c.args.steps.now in
    let i = c.loop-step.step-index in
    let step = c.step-item.result in
    let inside : i < length steps = search rules in (
      λ t. search rules,
      λ all.
          let own : Good step = subst Good (sym c.step-item.is) (all i step inside) in
          let true : IsTrue c.in_ok-is_good.field-0 = c.in_ok-is_good.ensures.1 own in
          search rules,
    )

pub loop-step-preserved : goal.loop-step-preserved
loop-step-preserved c =
    let steps = c.args.steps.now in
    let i = c.loop-step.step-index in
    let step = c.step-item.result in
    let inside : i < length steps = search rules in
    let true : IsTrue c.in_ok-is_good.field-0 = search rules in
    All-more Good steps i step inside c.loop-step.invariant (subst Good c.step-item.is (c.in_ok-is_good.ensures.0 true))

pub returns : goal.returns
returns c =
    let steps = c.args.steps.now in
    let most : length steps ≤ c.loop-step.step-index = search rules in
    (λ t. subst AreGood (take_all c.loop-step.step-index steps most) c.loop-step.invariant, λ all. refl)
