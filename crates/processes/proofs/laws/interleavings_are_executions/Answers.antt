use Rattle.processes.specs.Groups.{group_actors}
use Rattle.processes.proofs.Looping.{execution_to}
use Rattle.processes.proofs.laws.interleavings_are_executions.Goals as goal

pub returns : goal.returns
returns g = λ n nodes moves process each. execution_to (group_actors n nodes) moves process each
