-- Texts that are put to the end of a buffer.
use Rattle.std.specs.Prelude.{◌++◌, ℕ, List, [], ◌∷◌}

-- texts with a comma before each
abbrev pub behind_commas : List (List ℕ) → List ℕ
behind_commas [] = []
behind_commas (text ∷ texts) = 44 ∷ (text ++ behind_commas texts)
