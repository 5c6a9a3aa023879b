-- Where rows stand in a table.
use Rattle.std.specs.Prelude.{ℕ, ◌≡◌, ◌<◌, ◌≤◌, Result, Ok, Err, get_or, set, insert, List, Some, None, length}
use Rattle.std.specs.declared.cmp.Ordering.{Ordering}
use Rattle.pages.specs.Rows.{row_of, put}

-- where a key's row stands, or where a row under it would
abbrev pub PositionOf : {K X : Type 0} → (K → K → Ordering) → (X → K) → K → List X → Result ℕ ℕ → Type 0
PositionOf {K} {X} R key k ys (Ok at) = (at < length ys) × ((d : X) → row_of R key k ys ≡ Some (get_or ys at d)) × ((x : X) → key x ≡ k → put R key x ys ≡ set ys at x)
PositionOf {K} {X} R key k ys (Err at) = (at ≤ length ys) × (row_of R key k ys ≡ None) × ((x : X) → key x ≡ k → put R key x ys ≡ insert ys at x)
