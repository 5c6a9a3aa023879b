use Rattle.spec.proofs.Runs.{every_run}
use Rattle.spec.proofs.every_run_refines_the_spec.Goals as goal

pub returns : goal.returns
returns g = λ n nodes events past w r. every_run n nodes events past w r
