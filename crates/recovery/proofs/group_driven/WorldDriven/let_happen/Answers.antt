use Rattle.std.proofs.Common.{◌∙◌, length, ap, arith}
use Rattle.group_inputs.specs.Events.{group_event}
use Rattle.recovery.proofs.GroupDriving.{group_has_number, group_taken, group_crashed, group_refused_not, group_still}
use Rattle.recovery.proofs.group_driven.WorldDriven.let_happen.Goals as goal

pub own_event-requires : goal.own_event-requires
own_event-requires c = group_has_number c.args.self.now c.args.event c.args.server c.requires c.len-count.result (c.len-count.ensures ∙ ap length c.sent.ensures.value) (omega arith)

pub unreachable-requires : goal.unreachable-requires
unreachable-requires c = group_refused_not c.args.self.now c.args.event c.args.server c.requires (group_event c.in-Ok.own) c.in-Ok.ensures c.step.new.self c.in-Err.refusal (c.in-Err.ensures.cause c.in_default-refusal.not-NoMemory)

pub returns-in-Taken-clause-ok : goal.returns-in-Taken-clause-ok
returns-in-Taken-clause-ok c = group_taken c.args.self.now c.args.event c.args.server c.requires (group_event c.in-Ok.own) c.in-Ok.ensures c.step.new.self (rw c.in-Taken.is at c.in-Ok-step.ensures.ok)

pub returns-in-Crashed-clause-err : goal.returns-in-Crashed-clause-err
returns-in-Crashed-clause-err c = group_crashed c.args.self.now c.args.event c.args.server c.requires (group_event c.in-Ok.own) c.in-Ok.ensures c.step.new.self (rw c.in-Crashed.is at c.in-Ok-step.ensures.ok)

pub returns-in-NoMemory-clause-err : goal.returns-in-NoMemory-clause-err
returns-in-NoMemory-clause-err c = group_still c.args.self.now c.step.new.self c.in-Err.ensures.err
