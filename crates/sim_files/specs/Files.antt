-- The bytes of a file with which nothing is wrong.
use Rattle.std.specs.Prelude.{ℕ, List}
use Rattle.std.specs.Str.{IsUtf8}
use Rattle.sim_scenario.specs.Complaints.{IsGoodText}

-- they are UTF-8, and a scenario with which nothing is wrong
abbrev pub IsGoodFile : List ℕ → Type 0
IsGoodFile bytes = IsUtf8 bytes × IsGoodText bytes
