-- The replicated state as a machine.
use Rattle.rows.specs.declared.command.Command.{Command}
use Rattle.rows.specs.declared.command.Command.TheVariants as commands
use Rattle.fields_model.specs.StateText.{state}
use Rattle.fields_model.specs.Commands.{command}
use Rattle.machine_model.specs.MachineSpec.{MachineSpec}
use Rattle.fsm_model.specs.Words.{State, no_rows}
use Rattle.fsm_model.specs.SafeFacts.{Safe}
use Rattle.fsm_model.specs.Effect.{applied}
use Rattle.fsm_model.specs.Admission.{admission}

abbrev pub cluster_spec : MachineSpec State Command
cluster_spec = record {
  states = state;
  commands = command;
  safe = Safe;
  empty = no_rows;
  noop = commands.Noop;
  count = λ s. s.count;
  applied = applied;
  admission = admission;
}
