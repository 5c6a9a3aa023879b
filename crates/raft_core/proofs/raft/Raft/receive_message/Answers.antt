use Rattle.raft_core.proofs.Fills.{takes_message, seen_each}
use Rattle.raft_core.proofs.Telling.{message_keeps}
use Rattle.raft_core.proofs.raft.Raft.receive_message.Goals as goal

pub returns-in-Ok-clause-taken : goal.returns-in-Ok-clause-taken
returns-in-Ok-clause-taken g c = takes_message g.M.Machine.spec c.args.self.now c.handle_message.new.self c.args.outbox.now c.handle_message.new.outbox c.args.message c.covered_is_committed.ensures c.in-Ok.ensures.taken

pub returns-in-Ok-clause-seen : goal.returns-in-Ok-clause-seen
returns-in-Ok-clause-seen g c = seen_each g.M.Machine.spec g.W.Watch.sees c.args.self.now c.handle_message.new.self c.covered_is_committed.ensures c.covered_is_committed-in-Ok.ensures (λ leads. rw (c.in-Ok.ensures.led leads) c.covered_is_committed.ensures.covered) c.args.watch.now c.handle_message.new.watch c.in-Ok.ensures.seen

pub returns-in-Ok-clause-keeps : goal.returns-in-Ok-clause-keeps
returns-in-Ok-clause-keeps g c = message_keeps g.M.Machine.spec c.args.self.now c.handle_message.new.self c.args.outbox.now c.handle_message.new.outbox c.committed.ensures c.covered_is_committed.ensures c.covered_is_committed-in-Ok.ensures c.args.message c.in-Ok.ensures.admitted c.in-Ok.ensures.taken
