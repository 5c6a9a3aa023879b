-- The bytes of a bank, and of its commands.
use Rattle.std.specs.Prelude.{ℕ, ◌+◌, Option, Some, None, List}
use Rattle.fields_model.specs.Format.{Format, number, nothing, ◌then◌, made, list, tagged, variant, never, choice}
use Rattle.fields_model.specs.Fields.{index, u16}
use Rattle.example_bank.specs.BankState.{BankState}
use Rattle.example_bank.specs.Outcomes.{MOST_MONEY}
use Rattle.example_bank.specs.declared.command.BankCommand.{BankCommand}
use Rattle.example_bank.specs.declared.command.BankCommand.TheVariants.{Noop, Open, Deposit, Withdraw, Transfer}

-- eight bytes, at most MOST
abbrev pub money : Format ℕ
money = number 8 0 (MOST_MONEY + 1)

-- at most 1,000 of them, behind their number in four bytes
abbrev pub balances : Format (List ℕ)
balances = list 4 1000 money

-- a bank's text: the count, and then the balances
abbrev pub bank : Format BankState
bank = made (λ p. record { count = p.0; balances = p.1 }) (λ s. (s.count, s.balances)) (index then balances)

-- the tag of a command, and what it holds, where it is one of that kind
abbrev pub tag_of : BankCommand → ℕ
tag_of Noop = 0
tag_of Open = 1
tag_of (Deposit _ _) = 2
tag_of (Withdraw _ _) = 3
tag_of (Transfer _ _ _) = 4

abbrev pub noop_of : BankCommand → Option (Unit {0})
noop_of Noop = Some tt
noop_of _ = None

abbrev pub open_of : BankCommand → Option (Unit {0})
open_of Open = Some tt
open_of _ = None

abbrev pub deposit_of : BankCommand → Option (ℕ × ℕ)
deposit_of (Deposit account amount) = Some (account, amount)
deposit_of _ = None

abbrev pub withdrawal_of : BankCommand → Option (ℕ × ℕ)
withdrawal_of (Withdraw account amount) = Some (account, amount)
withdrawal_of _ = None

abbrev pub transfer_of : BankCommand → Option (ℕ × (ℕ × ℕ))
transfer_of (Transfer from to amount) = Some (from, (to, amount))
transfer_of _ = None

-- A command's text: the tag in one byte; of a deposit and a withdrawal the account in two bytes and
-- the amount, of a transfer both accounts and the amount.
abbrev pub bank_command : Format BankCommand
bank_command = tagged tag_of (number 1 0 5)
    (choice 0 (variant (λ _. Noop) noop_of nothing)
    (choice 1 (variant (λ _. Open) open_of nothing)
    (choice 2 (variant (λ p. Deposit p.0 p.1) deposit_of (u16 then money))
    (choice 3 (variant (λ p. Withdraw p.0 p.1) withdrawal_of (u16 then money))
    (choice 4 (variant (λ p. Transfer p.0 p.1.0 p.1.1) transfer_of (u16 then u16 then money))
    (λ _. never))))))
