use Rattle.std.proofs.Common.{refl}
use Rattle.raft_model.specs.Rafts.{newcomer}
use Rattle.raft_snapshot.proofs.Whole.{empty_whole}
use Rattle.fsm_model.specs.ClusterMachine.{cluster_spec}
use Rattle.server.proofs.server.Server.new.Goals as goal

pub returns-in-Ok-clause-newcomer : goal.returns-in-Ok-clause-newcomer
returns-in-Ok-clause-newcomer c = c.in-Ok.ensures.server newcomer (rw c.new.ensures (record { term = refl; vote = refl; log = empty_whole cluster_spec _ _ refl refl; covered = refl }))
