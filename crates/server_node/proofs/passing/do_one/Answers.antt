use Rattle.server_node.proofs.Passed.{none_due}
use Rattle.server_node.proofs.passing.do_one.Goals as goal

pub returns-in-None-clause-all : goal.returns-in-None-clause-all
returns-in-None-clause-all c = none_due c.args.server.now c.args.frames.now.items c.args.leader.now c.args.what c.in-None.ensures.input
