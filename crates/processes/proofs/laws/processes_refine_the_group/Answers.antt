use Rattle.processes.specs.Groups.{group_actors, group_abstraction, stopped_by}
use Rattle.processes.proofs.Fine.{Fine}
use Rattle.processes.proofs.Groups.{is_simulated}
use Rattle.processes.proofs.Generic.{refines}
use Rattle.processes.proofs.laws.processes_refine_the_group.Goals as goal

pub returns : goal.returns
returns g = λ n nodes past now run. refines (group_actors n nodes) (group_abstraction n nodes) stopped_by Fine (is_simulated n nodes) past now run
