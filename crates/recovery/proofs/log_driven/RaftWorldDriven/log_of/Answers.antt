use Rattle.recovery.proofs.LogDriving.{some_there, none_there}
use Rattle.recovery.proofs.log_driven.RaftWorldDriven.log_of.Goals as goal

pub returns-clause-some : goal.returns-clause-some
returns-clause-some g c = some_there g.M.Machine.spec c.args.self.now c.args.server c.raft.result c.raft.ensures

pub returns-clause-none : goal.returns-clause-none
returns-clause-none g c = none_there g.M.Machine.spec c.args.self.now c.args.server c.raft.result c.raft.ensures
