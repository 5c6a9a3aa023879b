use Rattle.raft_core.proofs.Fills.{machine_each}
use Rattle.raft_core.proofs.raft.Raft.machine.Goals as goal

pub returns-clause-value : goal.returns-clause-value
returns-clause-value g c = machine_each g.M.Machine.spec c.args.self.now c.covered_is_committed.ensures c.applied_machine.result c.applied_machine.ensures.state
