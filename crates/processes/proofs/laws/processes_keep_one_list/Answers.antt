use Rattle.processes.proofs.Logs.{keeps_one_list}
use Rattle.processes.proofs.laws.processes_keep_one_list.Goals as goal

pub returns : goal.returns
returns g c = λ n past now run. keeps_one_list g.M.Machine.spec n past now run g.met.M.Machine.lawful
