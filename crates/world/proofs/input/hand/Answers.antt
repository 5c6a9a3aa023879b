use Rattle.raft_model.specs.Steps.{Timeout, Beat, Compact, Crash, Restart}
use Rattle.raft_core.specs.Inputs.{Bytes, Own}
use Rattle.world.proofs.Refused.{step_leaves, step_stays}
use Rattle.world.proofs.input.hand.Goals as goal

pub returns-in-Deliver-clause-left : goal.returns-in-Deliver-clause-left
returns-in-Deliver-clause-left g c =
    let here = rw c.in-Deliver.is at c.requires in
    rw (c.in-Deliver.is, ← here) (step_leaves g.M.Machine.spec c.args.raft.now (Bytes c.args.frame.now) c.step.new.self c.step.result c.step.ensures.left)

pub returns-in-Timeout-clause-left : goal.returns-in-Timeout-clause-left
returns-in-Timeout-clause-left g c = rw c.in-Timeout.is (step_leaves g.M.Machine.spec c.args.raft.now (Own Timeout) c.step-in-Timeout.new.self c.step-in-Timeout.result c.step-in-Timeout.ensures.left)

pub returns-in-Beat-clause-left : goal.returns-in-Beat-clause-left
returns-in-Beat-clause-left g c = rw c.in-Beat.is (step_leaves g.M.Machine.spec c.args.raft.now (Own Beat) c.step-in-Beat.new.self c.step-in-Beat.result c.step-in-Beat.ensures.left)

pub returns-in-Propose-clause-left : goal.returns-in-Propose-clause-left
returns-in-Propose-clause-left g c = rw c.in-Propose.is c.propose.ensures.left

pub returns-in-Compact-clause-left : goal.returns-in-Compact-clause-left
returns-in-Compact-clause-left g c = rw c.in-Compact.is (step_leaves g.M.Machine.spec c.args.raft.now (Own Compact) c.step-in-Compact.new.self c.step-in-Compact.result c.step-in-Compact.ensures.left)

pub returns-in-Crash-clause-left : goal.returns-in-Crash-clause-left
returns-in-Crash-clause-left g c = rw c.in-Crash.is (step_leaves g.M.Machine.spec c.args.raft.now (Own Crash) c.step-in-Crash.new.self c.step-in-Crash.result c.step-in-Crash.ensures.left)

pub returns-in-Restart-clause-left : goal.returns-in-Restart-clause-left
returns-in-Restart-clause-left g c = rw c.in-Restart.is (step_leaves g.M.Machine.spec c.args.raft.now (Own Restart) c.step-in-Restart.new.self c.step-in-Restart.result c.step-in-Restart.ensures.left)

pub returns-in-Deliver-clause-stays : goal.returns-in-Deliver-clause-stays
returns-in-Deliver-clause-stays g c =
    let here = rw c.in-Deliver.is at c.requires in
    rw (c.in-Deliver.is, ← here) (step_stays c.args.raft.now (Bytes c.args.frame.now) c.step.new.self c.step.result c.step.ensures.stays)

pub returns-in-Timeout-clause-stays : goal.returns-in-Timeout-clause-stays
returns-in-Timeout-clause-stays g c = rw c.in-Timeout.is (step_stays c.args.raft.now (Own Timeout) c.step-in-Timeout.new.self c.step-in-Timeout.result c.step-in-Timeout.ensures.stays)

pub returns-in-Beat-clause-stays : goal.returns-in-Beat-clause-stays
returns-in-Beat-clause-stays g c = rw c.in-Beat.is (step_stays c.args.raft.now (Own Beat) c.step-in-Beat.new.self c.step-in-Beat.result c.step-in-Beat.ensures.stays)

pub returns-in-Propose-clause-stays : goal.returns-in-Propose-clause-stays
returns-in-Propose-clause-stays g c = rw c.in-Propose.is c.propose.ensures.stays

pub returns-in-Compact-clause-stays : goal.returns-in-Compact-clause-stays
returns-in-Compact-clause-stays g c = rw c.in-Compact.is (step_stays c.args.raft.now (Own Compact) c.step-in-Compact.new.self c.step-in-Compact.result c.step-in-Compact.ensures.stays)

pub returns-in-Crash-clause-stays : goal.returns-in-Crash-clause-stays
returns-in-Crash-clause-stays g c = rw c.in-Crash.is (step_stays c.args.raft.now (Own Crash) c.step-in-Crash.new.self c.step-in-Crash.result c.step-in-Crash.ensures.stays)

pub returns-in-Restart-clause-stays : goal.returns-in-Restart-clause-stays
returns-in-Restart-clause-stays g c = rw c.in-Restart.is (step_stays c.args.raft.now (Own Restart) c.step-in-Restart.new.self c.step-in-Restart.result c.step-in-Restart.ensures.stays)
