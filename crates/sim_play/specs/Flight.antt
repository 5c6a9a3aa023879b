-- Messages in flight.
use Rattle.std.specs.Prelude.{ℕ, ◌+◌, ◌-◌, List}
use Rattle.std.specs.List.{range_with_len}

-- the numbers of those that no flow has taken, and how many of all that were ever sent have been
-- put in flight
pub record InFlight : Type 0 where
  pub waiting : List ℕ
  pub seen : ℕ

-- the numbers of the messages sent after the first `seen`, `sent` being all
abbrev pub newly_sent : ℕ → ℕ → List ℕ
newly_sent seen sent = range_with_len (seen + 1) (sent - seen)
