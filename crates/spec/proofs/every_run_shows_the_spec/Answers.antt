use Rattle.spec.proofs.Visible.{shows_spec}
use Rattle.spec.proofs.every_run_shows_the_spec.Goals as goal

pub returns : goal.returns
returns g = λ n nodes events past w r. shows_spec n nodes events past w r
