use Rattle.std.proofs.Common.{Err, ◌≡◌, ◌≤◌, ◌<◌, length, rules}
use Rattle.sim_play.proofs.GoodSteps.{good_at}
use Rattle.sim_files.proofs.ReadSteps.{all_steps, good_lines, one_more_step}
use Rattle.sim_files.proofs.Reasons.{stops_reading}
use Rattle.sim_files.proofs.running.read_steps.Goals as goal

pub returns-in_err-step-clause-fault : goal.returns-in_err-step-clause-fault
returns-in_err-step-clause-fault c =
    let lines = c.args.scenario.now.steps.items in
    let i = c.loop-line.line-index in
    let inside : i < length lines = search rules in
    let at = rw c.deref-line-items.ensures.value at c.line-item.is in
    let same : c.from_residual-in_err-step.result ≡ Err c.in_err-step.field-0.0 = search rules in
    rw same (stops_reading _ (λ good. good_at lines i c.line-item.result good inside at) (rw c.as_str.ensures.value at c.in_err-step.ensures.fault))

pub loop-line-preserved : goal.loop-line-preserved
loop-line-preserved c =
    let lines = c.args.scenario.now.steps.items in
    let i = c.loop-line.line-index in
    let inside : i < length lines = search rules in
    let at = rw c.deref-line-items.ensures.value at c.line-item.is in
    let named = rw c.as_str.ensures.value at c.in_ok-step.ensures.named in
    rw c.in_ok-push.ensures.items (one_more_step c.loop-line.steps.items lines i c.line-item.result c.in_ok-step.step c.loop-line.invariant inside at named)

pub returns-clause-steps : goal.returns-clause-steps
returns-clause-steps c =
    let lines = c.args.scenario.now.steps.items in
    let most : length lines ≤ c.loop-line.line-index = search rules in
    all_steps c.loop-line.steps.items lines c.loop-line.line-index c.loop-line.invariant most

pub returns-clause-good : goal.returns-clause-good
returns-clause-good c =
    let lines = c.args.scenario.now.steps.items in
    let most : length lines ≤ c.loop-line.line-index = search rules in
    good_lines _ _ (all_steps c.loop-line.steps.items lines c.loop-line.line-index c.loop-line.invariant most)
