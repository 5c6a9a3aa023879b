-- The state of a bank. It stands alone, since the formats that cite it are cited where the commands
-- are declared.
use Rattle.std.specs.Prelude.{ℕ, List}

pub record BankState : Type 0 where
  -- how many commands were applied
  pub count : ℕ
  -- the balances of the accounts, in the order of their numbers, which begin at 0
  pub balances : List ℕ
