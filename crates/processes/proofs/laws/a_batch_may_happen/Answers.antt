use Rattle.processes.specs.Groups.{group_actors}
use Rattle.processes.proofs.Groups.{same_name}
use Rattle.processes.proofs.Batching.{may_happen}
use Rattle.processes.proofs.laws.a_batch_may_happen.Goals as goal

pub returns : goal.returns
returns g = λ n nodes now k a b unsaved out batch. may_happen (group_actors n nodes) same_name k now a b unsaved out batch
