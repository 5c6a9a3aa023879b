use Rattle.raft_snapshot.proofs.Applies.{on_ok}
use Rattle.raft_snapshot.proofs.Seen.{after_append}
use Rattle.raft_core.proofs.raft.Raft.handle_body.Goals as goal

pub returns-in-Append-clause-seen : goal.returns-in-Append-clause-seen
returns-in-Append-clause-seen g c =
    let m = g.M.Machine.spec in
    let sees = g.W.Watch.sees in
    let a = c.args in
    let s = a.self.now in
    let head = c.in-Append.append.head in
    on_ok c.handle_append.result (λ t. rw t.server (after_append m sees s.base s.size s.me s.server a.from head.term head.prev_index head.prev_term head.commit c.in-Append.append.entries a.watch.now)) c.handle_append.ensures.taken
