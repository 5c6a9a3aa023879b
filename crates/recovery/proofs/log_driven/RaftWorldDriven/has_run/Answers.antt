use Rattle.recovery.proofs.LogDriving.{log_lawful}
use Rattle.recovery.proofs.log_driven.RaftWorldDriven.has_run.Goals as goal

pub returns-clause-law : goal.returns-clause-law
returns-clause-law g c = log_lawful g.M.Machine.spec
