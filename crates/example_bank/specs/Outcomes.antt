-- What each command makes of the balances; none where it is refused.
use Rattle.std.specs.Prelude.{ℕ, ◌+◌, ◌-◌, Option, Some, None, List, [], ◌∷◌, ◌++◌, length, nat_eq, nat_le, nat_lt, slice_get, slice_set, if◌then◌else◌}
use Rattle.rows.specs.declared.refusal.Refusal.{Refusal}
use Rattle.rows.specs.declared.refusal.Refusal.TheVariants.{OutOfRange, TableFull}
use Rattle.example_bank.specs.declared.command.BankCommand.{BankCommand}
use Rattle.example_bank.specs.declared.command.BankCommand.TheVariants.{Noop, Open, Deposit, Withdraw, Transfer}

-- the most that an account holds, and the most that a command moves
abbrev pub MOST_MONEY : ℕ
MOST_MONEY = 1000000000000

-- a balance with an amount more, where there is such an account, and it holds no more than it may
abbrev pub raised : ℕ → Option ℕ → Option ℕ
raised amount None = None
raised amount (Some balance) = if nat_le (balance + amount) MOST_MONEY then Some (balance + amount) else None

-- a balance with an amount less, where there is such an account, and it holds that much
abbrev pub lowered : ℕ → Option ℕ → Option ℕ
lowered amount None = None
lowered amount (Some balance) = if nat_le amount balance then Some (balance - amount) else None

-- both, of two accounts; or neither
abbrev pub both : Option ℕ → Option ℕ → Option (ℕ × ℕ)
both (Some left) (Some more) = Some (left, more)
both (Some left) None = None
both None more = None

abbrev pub transferred : List ℕ → ℕ → ℕ → ℕ → Option (ℕ × ℕ)
transferred balances from to amount =
    if nat_eq from to then None
    else both (lowered amount (slice_get balances from)) (raised amount (slice_get balances to))

-- the balances with new ones written down
abbrev pub with_one : List ℕ → ℕ → Option ℕ → Option (List ℕ)
with_one balances account None = None
with_one balances account (Some balance) = Some (slice_set balances account balance)

abbrev pub with_two : List ℕ → ℕ → ℕ → Option (ℕ × ℕ) → Option (List ℕ)
with_two balances from to None = None
with_two balances from to (Some new) = Some (slice_set (slice_set balances from new.0) to new.1)

-- the balances with one account more, where there is room for it
abbrev pub with_account : List ℕ → Option (List ℕ)
with_account balances = if nat_lt (length balances) 1000 then Some (balances ++ 0 ∷ []) else None

-- the balances after a command
abbrev pub outcome : List ℕ → BankCommand → Option (List ℕ)
outcome balances Noop = Some balances
outcome balances Open = with_account balances
outcome balances (Deposit account amount) =
    with_one balances account (raised amount (slice_get balances account))
outcome balances (Withdraw account amount) =
    with_one balances account (lowered amount (slice_get balances account))
outcome balances (Transfer from to amount) =
    with_two balances from to (transferred balances from to amount)

-- what a command is refused with that has no outcome
abbrev pub command_refusal : BankCommand → Refusal
command_refusal Open = TableFull
command_refusal _ = OutOfRange
