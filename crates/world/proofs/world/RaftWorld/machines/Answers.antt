use Rattle.world.proofs.Histories.{one_history}
use Rattle.world.proofs.world.RaftWorld.machines.Goals as goal

pub returns-clause-history : goal.returns-clause-history
returns-clause-history g c =
    one_history g.M.Machine.spec g.met.M.Machine.lawful c.args.self.now c.one_list.ensures c.args.one c.args.other c.in_ok-machine.field-0.now c.in_ok-machine-2.field-0.now
    c.in_ok-machine.ensures.value c.in_ok-machine-2.ensures.value
