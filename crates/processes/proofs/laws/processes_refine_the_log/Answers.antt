use Rattle.processes.proofs.Logs.{log_world}
use Rattle.processes.proofs.laws.processes_refine_the_log.Goals as goal

pub returns : goal.returns
returns g c = λ n past now run. log_world g.M.Machine.spec n past now run
