use Rattle.raft_core.specs.Inputs.{handed}
use Rattle.raft_core.proofs.Fills.{takes_by, hides_shown, other_refused, other_same, other_unsent, other_leaves, other_stays, seen_each}
use Rattle.raft_core.proofs.Telling.{may_keep}
use Rattle.raft_core.proofs.raft.Raft.step_watched.Goals as goal

pub returns-in-Ok-clause-taken : goal.returns-in-Ok-clause-taken
returns-in-Ok-clause-taken g c = takes_by g.M.Machine.spec c.args.input c.args.self.now c.try_step.new.self c.args.outbox.now c.try_step.new.outbox c.covered_is_committed.ensures c.in-Ok.ensures.taken

pub returns-in-Ok-clause-seen : goal.returns-in-Ok-clause-seen
returns-in-Ok-clause-seen g c = seen_each g.M.Machine.spec g.W.Watch.sees c.args.self.now c.try_step.new.self c.covered_is_committed.ensures c.covered_is_committed-in-Ok.ensures c.in-Ok.ensures.led c.args.watch.now c.try_step.new.watch c.in-Ok.ensures.seen

pub returns-in-Ok-clause-keeps : goal.returns-in-Ok-clause-keeps
returns-in-Ok-clause-keeps g c = may_keep g.M.Machine.spec c.args.self.now c.try_step.new.self c.args.outbox.now c.try_step.new.outbox c.committed.ensures c.covered_is_committed.ensures c.covered_is_committed-in-Ok.ensures (handed c.args.input) c.in-Ok.ensures.read c.in-Ok.ensures.taken

pub returns-in_default : goal.returns-in_default
returns-in_default g c =
    let m = g.M.Machine.spec in
    let a = c.args in
    let old = a.self.now in
    let new = c.try_step.new.self in
    let cause = c.in-Err.cause in
    let other = c.in_default.not-NoMemory in
    let stopped = c.in-Err.ensures.stopped in
    let same = other_same m a.input cause old new a.outbox.now c.try_step.new.outbox other stopped in
    record {
      same = c.in-Err.ensures.same;
      taken = tt;
      admitted = tt;
      kept = tt;
      keeps = tt;
      refused = other_refused m a.input cause old new a.outbox.now c.try_step.new.outbox other c.covered_is_committed.ensures stopped;
      unhidden = λ s r. hides_shown m old.size old.me old.base old.server s c.covered_is_committed.ensures r a.input cause c.in-Err.ensures.unhidden;
      left = λ s r. other_leaves m (handed a.input) cause old new s other same;
      stays = other_stays m (handed a.input) cause old new other same;
      unsent = other_unsent m a.input cause old new a.outbox.now c.try_step.new.outbox other stopped;
      seen = tt;
      unseen = c.in-Err.ensures.unseen;
    }
