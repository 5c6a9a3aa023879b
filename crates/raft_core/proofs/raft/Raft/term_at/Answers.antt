use Rattle.raft_core.proofs.Tickets.{term_each}
use Rattle.raft_core.proofs.raft.Raft.term_at.Goals as goal

pub returns-clause-value : goal.returns-clause-value
returns-clause-value g c = term_each g.M.Machine.spec c.args.self.now c.covered_is_committed.ensures c.args.index c.shown_term_at.result c.shown_term_at.ensures
