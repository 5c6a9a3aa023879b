-- What is printed of lost messages.
use Rattle.std.specs.Prelude.{◌++◌, ℕ, List, codes, decimal}

-- what the standard error is told of so many lost messages
abbrev pub lost_line : ℕ → List ℕ
lost_line lost = codes "nomadsim: lost " ++ decimal lost ++ codes " messages\n"
