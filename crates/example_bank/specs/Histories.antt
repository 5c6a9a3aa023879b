-- What is known of the banks of a group.
use Rattle.std.specs.Prelude.{◌≡◌, ◌≤◌, ℕ, Some, List, All, length, take}
use Rattle.machine_model.specs.After.{after}
use Rattle.raft_model.specs.Worlds.{World, moment}
use Rattle.world.specs.WorldView.{WorldView, RunsTo}
use Rattle.world.specs.Claims.{machine_of}
use Rattle.example_bank.specs.BankState.{BankState}
use Rattle.example_bank.specs.Outcomes.{MOST_MONEY}
use Rattle.example_bank.specs.Bank.{bank_spec}
use Rattle.example_bank.specs.Books.{Balanced}
use Rattle.example_bank.specs.declared.command.BankCommand.{BankCommand}

-- The bank after as many of the first commands of the list as it counts: its balances come to what
-- these paid in, less what they paid out, and no account holds more than it may.
pub record IsBankOf (list : List BankCommand) (bank : BankState) : Type 0 where
  pub count : bank.count ≤ length list
  pub applied : bank ≡ after bank_spec (take bank.count list)
  pub balanced : Balanced bank (take bank.count list)
  pub limit : All (λ balance. balance ≤ MOST_MONEY) bank.balances

-- The value has a run; and there is one list of commands, such that in each run of the value, at
-- each of its moments, the bank of each server that is up is one of that list.
pub record OneBook (view : WorldView BankState BankCommand) : Type 0 where
  pub past : List (World BankCommand)
  pub world : World BankCommand
  pub runs : RunsTo bank_spec view past world
  pub list : List BankCommand
  pub long : length list ≡ view.chain
  pub ever : (past : List (World BankCommand)) (w : World BankCommand) → RunsTo bank_spec view past w →
      (k : ℕ) (x : World BankCommand) (server : ℕ) (bank : BankState) →
      moment past w k ≡ Some x → machine_of bank_spec x server ≡ Some bank → IsBankOf list bank
