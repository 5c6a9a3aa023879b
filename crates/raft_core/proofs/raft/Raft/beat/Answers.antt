use Rattle.raft_snapshot.proofs.Applies.{on_ok}
use Rattle.raft_core.proofs.Beats.{beats_by}
use Rattle.raft_core.proofs.raft.Raft.beat.Goals as goal

pub returns-in-Leader-clause-taken : goal.returns-in-Leader-clause-taken
returns-in-Leader-clause-taken g c =
    let i = c.self.inside in
    let all = rw c.deref.ensures.value at c.send_to_others.ensures.ok in
    on_ok c.send_to_others.result
    (beats_by g.M.Machine.spec c.args.self.now i.log.base i.machine i.me i.size i.term i.vote i.log.entries i.commit i.known i.role i.votes.items i.next.items i.matched.items _ c.args.outbox.now c.send_to_others.new.outbox c.self.view_is c.covered_is_committed.ensures c.requires c.in-Leader.is c.self.invariant.next_each)
    all
