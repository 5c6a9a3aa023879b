use Rattle.std.proofs.Common.{◌≤◌, ◌<◌, IsTrue, inr, length, refl, rules}
use Rattle.sim_play.proofs.GoodSteps.{all_good, good_at, one_more_good}
use Rattle.sim_files.proofs.running.check_steps.Goals as goal

pub returns-then-not-branch-clause-fault : goal.returns-then-not-branch-clause-fault
returns-then-not-branch-clause-fault c =
    let steps = c.args.scenario.now.steps.items in
    let i = c.loop-line.line-index in
    let inside : i < length steps = search rules in
    let at = rw c.deref-line-items.ensures.value at c.line-item.is in
    let is = rw c.as_str.ensures.value at c.in_ok-is_step.ensures in
    inr (
      refl,
      λ good.
          let true : IsTrue c.in_ok-is_step.field-0 = is.1 (good_at steps i c.line-item.result good inside at) in
          search rules,
    )

pub loop-line-preserved : goal.loop-line-preserved
loop-line-preserved c =
    let steps = c.args.scenario.now.steps.items in
    let i = c.loop-line.line-index in
    let inside : i < length steps = search rules in
    let at = rw c.deref-line-items.ensures.value at c.line-item.is in
    let is = rw c.as_str.ensures.value at c.in_ok-is_step.ensures in
    one_more_good steps i c.line-item.result c.loop-line.invariant inside at (is.0 (search rules))

pub returns-clause-good : goal.returns-clause-good
returns-clause-good c =
    let steps = c.args.scenario.now.steps.items in
    let most : length steps ≤ c.loop-line.line-index = search rules in
    all_good steps c.loop-line.line-index c.loop-line.invariant most
