-- Lists that what is owed is put to.
use Rattle.std.specs.Prelude.{◌≡◌, ◌++◌, List}

-- new is old, and what is owed behind it
abbrev pub GrowsByOwed : {X : Type 0} → (List X → Type 0) → List X → List X → Type 0
GrowsByOwed {X} Owed old new = (own : List X) × Owed own × (new ≡ old ++ own)
