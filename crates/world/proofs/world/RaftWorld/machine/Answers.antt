use Rattle.std.proofs.Common.{sym}
use Rattle.world.proofs.Histories.{no_machine, machine_is, machine_safe}
use Rattle.world.proofs.world.RaftWorld.machine.Goals as goal

pub returns-in_err-raft-clause-value : goal.returns-in_err-raft-clause-value
returns-in_err-raft-clause-value g c past w runs = rw c.from_residual.ensures (no_machine g.M.Machine.spec c.args.self.now c.args.server past w runs (sym c.in_err-raft.ensures))

pub returns-clause-value : goal.returns-clause-value
returns-clause-value g c past w runs = machine_is g.M.Machine.spec c.args.self.now c.args.server past w runs c.in_ok-raft.field-0.now c.machine.result (sym c.in_ok-raft.ensures) c.machine.ensures.value

pub returns-clause-safe : goal.returns-clause-safe
returns-clause-safe g c = machine_safe g.M.Machine.spec c.args.self.now c.one_list.ensures c.safe_states.ensures c.args.server c.machine.result
    (λ past w runs. machine_is g.M.Machine.spec c.args.self.now c.args.server past w runs c.in_ok-raft.field-0.now c.machine.result (sym c.in_ok-raft.ensures) c.machine.ensures.value)
