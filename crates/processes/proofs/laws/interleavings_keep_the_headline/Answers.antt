use Rattle.processes.specs.Groups.{group_actors}
use Rattle.processes.proofs.Looping.{execution_to}
use Rattle.processes.proofs.Headline.{keeps}
use Rattle.processes.proofs.laws.interleavings_keep_the_headline.Goals as goal

pub returns : goal.returns
returns g = λ n nodes moves process each. let c = execution_to (group_actors n nodes) moves process each in (c, keeps n nodes c.past c.last c.execution)
