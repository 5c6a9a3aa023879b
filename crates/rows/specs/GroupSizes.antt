-- How many servers a group has.
use Rattle.std.specs.Prelude.{◌≡◌, ℕ, ◌⊎◌}

-- the size of a group
abbrev pub IsGroup : ℕ → Type 0
IsGroup n = (n ≡ 3) ⊎ (n ≡ 5)
