-- What a list of commands pays in and out of a bank, and what that says of the balances.
use Rattle.std.specs.Prelude.{◌≡◌, ℕ, ◌+◌, List, [], ◌∷◌, sum}
use Rattle.example_bank.specs.BankState.{BankState}
use Rattle.example_bank.specs.declared.command.BankCommand.{BankCommand}
use Rattle.example_bank.specs.declared.command.BankCommand.TheVariants.{Deposit, Withdraw}

-- what a command pays in, and what it pays out
abbrev pub paid_in : BankCommand → ℕ
paid_in (Deposit account amount) = amount
paid_in _ = 0

abbrev pub paid_out : BankCommand → ℕ
paid_out (Withdraw account amount) = amount
paid_out _ = 0

-- what all of them do
abbrev pub deposited : List BankCommand → ℕ
deposited [] = 0
deposited (c ∷ cs) = paid_in c + deposited cs

abbrev pub withdrawn : List BankCommand → ℕ
withdrawn [] = 0
withdrawn (c ∷ cs) = paid_out c + withdrawn cs

-- the balances come to what the commands paid in, less what they paid out
abbrev pub Balanced : BankState → List BankCommand → Type 0
Balanced s cs = sum s.balances + withdrawn cs ≡ deposited cs
