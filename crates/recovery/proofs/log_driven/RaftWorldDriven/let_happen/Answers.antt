use Rattle.std.proofs.Common.{◌∙◌, length, ap, arith}
use Rattle.world.specs.Events.{world_event}
use Rattle.recovery.proofs.LogDriving.{has_number, taken, crashed, refused_not, still}
use Rattle.recovery.proofs.log_driven.RaftWorldDriven.let_happen.Goals as goal

pub own_event-requires : goal.own_event-requires
own_event-requires g c = has_number g.M.Machine.spec c.args.self.now c.args.event c.args.server c.requires c.len-count.result (c.len-count.ensures ∙ ap length c.sent.ensures) (omega arith)

pub unreachable-requires : goal.unreachable-requires
unreachable-requires g c = refused_not g.M.Machine.spec c.args.self.now c.args.event c.args.server c.requires (world_event c.own_event.result) c.own_event.ensures c.step.new.self c.in-Err.refusal (c.in-Err.ensures.cause c.in_default.not-NoMemory)

pub returns-in-Taken-clause-ok : goal.returns-in-Taken-clause-ok
returns-in-Taken-clause-ok g c = taken g.M.Machine.spec c.args.self.now c.args.event c.args.server c.requires (world_event c.own_event.result) c.own_event.ensures c.step.new.self (rw c.in-Taken.is at c.in-Ok.ensures.ok)

pub returns-in-Crashed-clause-err : goal.returns-in-Crashed-clause-err
returns-in-Crashed-clause-err g c = crashed g.M.Machine.spec c.args.self.now c.args.event c.args.server c.requires (world_event c.own_event.result) c.own_event.ensures c.step.new.self (rw c.in-Crashed.is at c.in-Ok.ensures.ok)

pub returns-in-NoMemory-clause-err : goal.returns-in-NoMemory-clause-err
returns-in-NoMemory-clause-err g c = still g.M.Machine.spec c.args.self.now c.step.new.self c.in-Err.ensures.err
