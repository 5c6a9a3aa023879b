use Rattle.std.proofs.Common.{refl}
use Rattle.raft_model.specs.Rafts.{newcomer}
use Rattle.raft_snapshot.proofs.Whole.{empty_whole}
use Rattle.world.proofs.world.newcomer.Goals as goal

pub returns-in-Ok-clause-server : goal.returns-in-Ok-clause-server
returns-in-Ok-clause-server g c = c.in-Ok.ensures.server newcomer (rw c.new.ensures (record { term = refl; vote = refl; log = empty_whole g.M.Machine.spec _ _ refl refl; covered = refl }))
