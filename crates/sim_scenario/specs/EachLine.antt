-- Lists that are made of what is owed for each line of a scenario.
use Rattle.std.specs.Prelude.{◌≡◌, ◌++◌, ℕ, suc, List, [], ◌∷◌}

-- what is owed for each line in turn, and nothing else; the first line is of the step of this number
abbrev pub OfEachLine : {X : Type 0} → (ℕ → List ℕ → List X → Type 0) → ℕ → List (List ℕ) → List X → Type 0
OfEachLine Owed number [] all = all ≡ []
OfEachLine {X} Owed number (line ∷ lines) all =
    (own : List X) × (others : List X) × (all ≡ own ++ others) × Owed number line own
    × OfEachLine Owed (suc number) lines others
