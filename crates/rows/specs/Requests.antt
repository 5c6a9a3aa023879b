-- What operators ask of the leader, and what is proposed for it.
use Rattle.rows.specs.declared.command.Command.{Command}
use Rattle.rows.specs.declared.command.Command.TheVariants as commands
use Rattle.rows.specs.declared.request.OperatorRequest.{OperatorRequest}
use Rattle.rows.specs.declared.request.OperatorRequest.TheVariants.{JobPut, JobStop, EvalPut, Drain}

-- the command that is proposed for a request
abbrev pub command_of : OperatorRequest → Command
command_of (JobPut job) = commands.JobPut job
command_of (JobStop name) = commands.JobStop name
command_of (EvalPut name) = commands.EvalPut name
command_of (Drain node force) = commands.Drain node force
