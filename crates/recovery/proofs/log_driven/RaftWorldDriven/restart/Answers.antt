use Rattle.recovery.proofs.LogWakings.{restarted_back, asleep_by, same_asleep, restart_not_refused}
use Rattle.recovery.proofs.log_driven.RaftWorldDriven.restart.Goals as goal

pub returns-in-Taken-clause-ok : goal.returns-in-Taken-clause-ok
returns-in-Taken-clause-ok g c = restarted_back g.M.Machine.spec c.args.self.now c.args.who c.requires c.step.new.self (rw c.in-Taken.is at c.in-Ok.ensures.ok)

pub returns-in-Crashed-clause-err : goal.returns-in-Crashed-clause-err
returns-in-Crashed-clause-err g c = asleep_by g.M.Machine.spec c.args.self.now c.args.who c.requires c.step.new.self (rw c.in-Crashed.is at c.in-Ok.ensures.ok)

pub returns-in-NoMemory-clause-err : goal.returns-in-NoMemory-clause-err
returns-in-NoMemory-clause-err g c = same_asleep g.M.Machine.spec c.args.self.now c.args.who c.requires c.step.new.self c.in-Err.ensures.err

pub unreachable-requires : goal.unreachable-requires
unreachable-requires g c = restart_not_refused g.M.Machine.spec c.args.self.now c.args.who c.requires c.step.new.self c.in-Err.refusal (c.in-Err.ensures.cause c.in_default.not-NoMemory)
