-- How many rows come before a key.
use Rattle.std.specs.Prelude.{ℕ, suc, cond, List, [], ◌∷◌}
use Rattle.std.specs.declared.cmp.Ordering.{Ordering}
use Rattle.std.specs.Ordering.{is_lt}

-- the number of rows of lower keys
abbrev pub count_below : {K X : Type 0} → (K → K → Ordering) → (X → K) → K → List X → ℕ
count_below R key k [] = 0
count_below R key k (y ∷ ys) = cond (is_lt (R (key y) k)) (suc (count_below R key k ys)) (count_below R key k ys)
