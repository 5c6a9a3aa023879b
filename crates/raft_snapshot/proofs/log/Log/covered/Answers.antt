use Rattle.raft_snapshot.proofs.Blanks.{shown_whole}
use Rattle.raft_snapshot.proofs.Whole.{base_term}
use Rattle.raft_snapshot.proofs.log.Log.covered.Goals as goal

pub returns-clause-term : goal.returns-clause-term
returns-clause-term g c =
    let i = c.self.inside in
    base_term g.M.Machine.spec i.base i.tail.items c.args.self.now c.self.view_is c.self.invariant.snapshot

pub returns-clause-noop_prefix : goal.returns-clause-noop_prefix
returns-clause-noop_prefix g c =
    let i = c.self.inside in
    rw (← c.self.view_is) (shown_whole g.M.Machine.spec i.base.index i.base.term i.tail.items)
