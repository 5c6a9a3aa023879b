use Rattle.spec.proofs.Logs.{every_log}
use Rattle.spec.proofs.every_log_refines_its_spec.Goals as goal

pub returns : goal.returns
returns g c = λ n events past w r. every_log g.M.Machine.spec g.met.M.Machine.lawful n events past w r
