use Rattle.raft_snapshot.proofs.Whole.{empty_whole}
use Rattle.raft_snapshot.proofs.log.Log.new.Goals as goal

pub returns-clause-whole : goal.returns-clause-whole
returns-clause-whole g c = empty_whole g.M.Machine.spec c.empty.result c.new.result.items c.empty.ensures.value c.new.ensures.items
