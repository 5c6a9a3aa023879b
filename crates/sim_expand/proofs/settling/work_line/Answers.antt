use Rattle.std.proofs.Common.{◌<◌, refl, rules}
use Rattle.sim_scenario.specs.Steps.{Work}
use Rattle.sim_expand.proofs.StepLines.{if_says}
use Rattle.sim_expand.proofs.settling.work_line.Goals as goal

pub returns : goal.returns
returns c =
    let fits : c.args.server < 5 = search rules in
    if_says c.format.result _ (Work c.args.server) (fits, refl) refl c.format.ensures.ok
