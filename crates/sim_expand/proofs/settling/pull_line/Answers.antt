use Rattle.std.proofs.Common.{◌<◌, refl, rules}
use Rattle.group_model.specs.Agents.{PullFrom}
use Rattle.group_model.specs.Worlds.{AtClient}
use Rattle.sim_scenario.specs.Steps.{AnEvent}
use Rattle.sim_expand.proofs.StepLines.{if_says}
use Rattle.sim_expand.proofs.settling.pull_line.Goals as goal

pub returns : goal.returns
returns c =
    let fits : c.args.server < 5 = search rules in
    if_says c.format.result _ (AnEvent (AtClient c.args.client (PullFrom c.args.server))) ((c.requires, fits), refl) refl c.format.ensures.ok
