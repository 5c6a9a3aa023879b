use Rattle.std.proofs.Common.{◌<◌, refl, rules}
use Rattle.group_model.specs.Inputs.{PlanTurn}
use Rattle.group_model.specs.Worlds.{AtServer}
use Rattle.sim_scenario.specs.Steps.{AnEvent}
use Rattle.sim_expand.proofs.StepLines.{if_says}
use Rattle.sim_expand.proofs.settling.plan_line.Goals as goal

pub returns : goal.returns
returns c =
    let fits : c.args.server < 5 = search rules in
    if_says c.format.result _ (AnEvent (AtServer c.args.server PlanTurn)) ((fits, tt), refl) refl c.format.ensures.ok
