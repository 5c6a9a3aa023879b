use Rattle.std.proofs.Common.{◌≡◌, None, codes, rules}
use Rattle.group_model.specs.Inputs.{Beat}
use Rattle.group_model.specs.Worlds.{AtServer}
use Rattle.event_texts.specs.EventLines.{IsEventLine}
use Rattle.sim_scenario.specs.Steps.{AnEvent, Flow}
use Rattle.sim_scenario.proofs.step.is_step.Goals as goal

pub returns-then-eq : goal.returns-then-eq
returns-then-eq c =
    let is : c.args.line.now ≡ codes "flow" = search rules in
    (λ t. (Flow None, is), λ s. search rules)

pub returns-in-Some : goal.returns-in-Some
returns-in-Some c =
    let named : IsEventLine (AtServer c.in-Some.field-0 Beat) c.args.line.now = search rules in
    (λ t. (AnEvent (AtServer c.in-Some.field-0 Beat), named), λ s. search rules)
