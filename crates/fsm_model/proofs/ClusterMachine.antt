-- The replicated state is a lawful machine.
use Rattle.std.proofs.Common.{refl, arith}
use Rattle.rows.specs.Versions.{newest}
use Rattle.rows.specs.declared.command.Command.TheVariants as commands
use Rattle.fields_model.proofs.StateTextLaws.{state_lawful}
use Rattle.fields_model.proofs.CommandLaws.{command_lawful}
use Rattle.fields_model.proofs.RangeLaws.{fits_state, state_fits, fits_command, command_fits}
use Rattle.machine_model.specs.MachineSpec.{LawfulMachine}
use Rattle.fsm_model.specs.Words.{no_rows}
use Rattle.fsm_model.proofs.SafeFacts.{safe_by_test}
use Rattle.fsm_model.proofs.SafeLaws.{keeps_safe}
use Rattle.fsm_model.specs.Effect.{applied}
use Rattle.fsm_model.proofs.StateLaws.{applied_has_count, refusal_is_its_own}
use Rattle.fsm_model.proofs.RangeLaws.{empty_is_state, applied_is_state}
use Rattle.fsm_model.specs.ClusterMachine.{cluster_spec}

pub cluster_lawful : LawfulMachine cluster_spec
cluster_lawful = record {
  states_lawful = state_lawful;
  commands_lawful = command_lawful;
  states_short = λ version. omega arith;
  commands_short = λ version. omega arith;
  states_stay = λ version s fits. fits_state s (state_fits version s fits);
  commands_stay = λ version c fits. fits_command c (command_fits version c fits);
  empty_fits = fits_state no_rows empty_is_state;
  empty_is_safe = safe_by_test no_rows tt;
  empty_has_count = refl;
  noop_fits = fits_command commands.Noop tt;
  noop_is_admitted = λ s fits. refl;
  count_is_below = λ s fits. (state_fits newest s fits).count;
  applied_fits = λ s c fits ok below. fits_state (applied s c) (applied_is_state s c (state_fits newest s fits) (command_fits newest c ok) below);
  applied_has_count = applied_has_count;
  admitted_is_safe = λ s c fits ok safe none. keeps_safe s c safe none;
  refusal_is_its_own = refusal_is_its_own;
}
