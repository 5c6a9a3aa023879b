-- A table is the list of its rows, in strictly rising key. A row holds its own key.
use Rattle.std.specs.Prelude.{ℕ, Bool, not, cond, List, [], ◌∷◌, Option, Some, None, nat_lt, length, is_some, ◌||◌, filter}
use Rattle.std.specs.declared.cmp.Ordering.{Ordering}
use Rattle.std.specs.declared.cmp.Ordering.TheVariants.{Less, Equal, Greater}
use Rattle.std.specs.Ordering.{is_eq, is_lt}
pub use Rattle.rows.specs.Rising.{is_below, is_rising}

abbrev pub by_order : {A : Type 0} → Ordering → A → A → A → A
by_order Less a b c = a
by_order Equal a b c = b
by_order Greater a b c = c

module _ {K X : Type 0} (R : K → K → Ordering) (key : X → K) where
  -- the row of a key
  abbrev pub row_of : K → List X → Option X
  row_of k [] = None
  row_of k (y ∷ ys) = cond (is_eq (R k (key y))) (Some y) (row_of k ys)

  abbrev pub has_row : K → List X → Bool
  has_row k ys = is_some (row_of k ys)

  -- the rows with x in its place: a row of its key is replaced
  abbrev pub put : X → List X → List X
  put x [] = x ∷ []
  put x (y ∷ ys) = by_order (R (key x) (key y)) (x ∷ y ∷ ys) (x ∷ ys) (y ∷ put x ys)

  -- the same, but a row under a new key is not made in a table of so many rows
  abbrev pub put_within : ℕ → X → List X → List X
  put_within most x ys = cond (has_row (key x) ys || nat_lt (length ys) most) (put x ys) ys

  -- the rows but that of a key
  abbrev pub without : K → List X → List X
  without k rows = filter (λ y. not (is_eq (R k (key y)))) rows

  -- the rows whose keys are not below a key
  abbrev pub rows_from : K → List X → List X
  rows_from k rows = filter (λ y. not (is_lt (R (key y) k))) rows
