-- A column of a row more.
use Rattle.std.specs.Prelude.{ℕ, zero, suc, List, [], ◌∷◌, max}

-- the column at this place is so wide at least; it may be one more, at the end
abbrev pub with_width : ℕ → ℕ → List ℕ → List ℕ
with_width column width [] = width ∷ []
with_width zero width (wide ∷ widths) = max wide width ∷ widths
with_width (suc column) width (wide ∷ widths) = wide ∷ with_width column width widths
