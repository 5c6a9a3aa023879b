use Rattle.group_inputs.specs.Events.{group_event}
use Rattle.recovery.proofs.GroupWakings.{group_restarted_back, group_asleep_by, group_same_asleep, group_restart_not_refused, group_unmade_asleep}
use Rattle.recovery.proofs.group_driven.WorldDriven.restart.Goals as goal

pub returns-in-Taken-clause-ok : goal.returns-in-Taken-clause-ok
returns-in-Taken-clause-ok c = group_restarted_back c.args.self.now c.args.who c.requires (group_event c.in-Ok.event) c.in-Ok.ensures c.step.new.self (rw c.in-Taken.is at c.in-Ok-step.ensures.ok)

pub returns-in-Crashed-clause-err : goal.returns-in-Crashed-clause-err
returns-in-Crashed-clause-err c = group_asleep_by c.args.self.now c.args.who c.requires (group_event c.in-Ok.event) c.in-Ok.ensures c.step.new.self (rw c.in-Crashed.is at c.in-Ok-step.ensures.ok)

pub returns-in-NoMemory-clause-err : goal.returns-in-NoMemory-clause-err
returns-in-NoMemory-clause-err c = group_same_asleep c.args.self.now c.args.who c.requires (group_event c.in-Ok.event) c.in-Ok.ensures c.step.new.self c.in-Err-step.ensures.err

pub unreachable-requires : goal.unreachable-requires
unreachable-requires c = group_restart_not_refused c.args.self.now c.args.who c.requires (group_event c.in-Ok.event) c.in-Ok.ensures c.step.new.self c.in-Err-step.refusal (c.in-Err-step.ensures.cause c.in_default.not-NoMemory)
