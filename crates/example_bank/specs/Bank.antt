-- The bank as a machine.
use Rattle.std.specs.Prelude.{◌≤◌, ◌+◌, Option, Some, None, List, ℕ, [], All}
use Rattle.std.specs.Option.{unwrap_or}
use Rattle.rows.specs.declared.refusal.Refusal.{Refusal}
use Rattle.machine_model.specs.MachineSpec.{MachineSpec}
use Rattle.example_bank.specs.BankState.{BankState}
use Rattle.example_bank.specs.Outcomes.{MOST_MONEY, outcome, command_refusal}
use Rattle.example_bank.specs.Texts.{bank, bank_command}
use Rattle.example_bank.specs.declared.command.BankCommand.{BankCommand}
use Rattle.example_bank.specs.declared.command.BankCommand.TheVariants.{Noop}

-- why a command is refused, where it has no outcome
abbrev pub refused : BankCommand → Option (List ℕ) → Option Refusal
refused c None = Some (command_refusal c)
refused c (Some balances) = None

-- A bank's promise of each state is that no account holds more than it may. That no balance is
-- below zero is said by its type.
abbrev pub bank_spec : MachineSpec BankState BankCommand
bank_spec = record {
  states = λ _. bank;
  commands = λ _. bank_command;
  safe = λ s. All (λ balance. balance ≤ MOST_MONEY) s.balances;
  empty = record { count = 0; balances = [] };
  noop = Noop;
  count = λ s. s.count;
  applied = λ s c. record { count = s.count + 1; balances = unwrap_or (outcome s.balances c) s.balances };
  admission = λ s c. refused c (outcome s.balances c);
}
