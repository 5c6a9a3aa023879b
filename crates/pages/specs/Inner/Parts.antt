-- Rows in parts that stand one behind the other. Each part has a first key: none of its rows is below it, and all rows of the parts before it are.
use Rattle.std.specs.Prelude.{Result, Ok, Err, ◌≤◌, ◌≡◌, ℕ, ◌<◌, Bool, true, not, ◌&&◌, List, [], ◌∷◌, ◌++◌, T, length, get_or}
use Rattle.std.specs.Ordering.{is_lt}
use Rattle.std.specs.declared.cmp.Ordering.{Ordering}
use Rattle.std.specs.declared.cmp.Ordering.TheVariants.{Less, Equal, Greater}
use Rattle.pages.specs.Rows.{is_rising}

-- the rows of parts, one behind the other
abbrev pub rows_of : {S X : Type 0} → (S → List X) → List S → List X
rows_of rows [] = []
rows_of rows (s ∷ ss) = rows s ++ rows_of rows ss

module _ {K X : Type 0} (R : K → K → Ordering) (key : X → K) where
  -- whether all rows are below a key
  abbrev pub are_below : K → List X → Bool
  are_below k [] = true
  are_below k (y ∷ ys) = is_lt (R (key y) k) && are_below k ys

  -- whether no row is below a key
  abbrev pub are_from : K → List X → Bool
  are_from k [] = true
  are_from k (y ∷ ys) = not (is_lt (R (key y) k)) && are_from k ys

  module _ {S : Type 0} (first : S → K) (rows : S → List X) where
    -- whether all rows are below the first keys
    abbrev pub are_before : List X → List S → Bool
    are_before ys [] = true
    are_before ys (s ∷ ss) = are_below (first s) ys && are_before ys ss

    abbrev pub AreApart : List S → Type 0
    AreApart [] = Unit {0}
    AreApart (s ∷ ss) = T (are_from (first s) (rows_of rows (s ∷ ss))) × T (are_before (rows s) ss) × AreApart ss

    pub record Parted (ss : List S) : Type 0 where
      pub rising : T (is_rising R key (rows_of rows ss))
      pub firsts : T (is_rising R first ss)
      pub apart : AreApart ss

    -- the part that has the key's row, if any has: the last whose first key is not above it, or the first part
    abbrev pub Leads : K → List S → ℕ → Type 0
    Leads k ss at = (at < length ss)
        × ((i : ℕ) (d : S) → at < i → i < length ss → R k (first (get_or ss i d)) ≡ Less)
        × (0 < at → (d : S) → T (not (is_lt (R k (first (get_or ss at d))))))

-- lists of parts with the same first keys and the same rows
abbrev pub AreAlike : {S K X : Type 0} → (S → K) → (S → List X) → List S → List S → Type 0
AreAlike first rows [] [] = Unit {0}
AreAlike first rows (s ∷ ss) (t ∷ ts) = (first s ≡ first t) × (rows s ≡ rows t) × AreAlike first rows ss ts
AreAlike first rows _ _ = ⊥

-- what a search among first keys finds
abbrev pub FirstsSplit : {K S : Type 0} → (K → K → Ordering) → (S → K) → K → List S → Result ℕ ℕ → Type 0
FirstsSplit {K} {S} R first k ss (Ok at) = (at < length ss) × ((d : S) → R (first (get_or ss at d)) k ≡ Equal)
FirstsSplit {K} {S} R first k ss (Err at) = (at ≤ length ss) × ((i : ℕ) (d : S) → i < at → R (first (get_or ss i d)) k ≡ Less) × ((i : ℕ) (d : S) → at ≤ i → i < length ss → R (first (get_or ss i d)) k ≡ Greater)
