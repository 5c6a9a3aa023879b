-- Rows of a table that stand together, and a walk over them.
use Rattle.std.specs.Prelude.{◌≡◌, ℕ, ◌<◌, List, ◌++◌, length, take, drop}
use Rattle.pages.specs.declared.walk_type.Rows.{Rows}

-- some rows that stand together from a position on, at least one where there is one
abbrev pub IsRun : {X : Type 0} → List X → ℕ → List X → Type 0
IsRun ys position run = (run ≡ take (length run) (drop position ys)) × (position < length ys → 0 < length run)

-- what is left of a walk: first the rows of the run, and then those from the position on
abbrev pub rows_left : {X K : Type 0} → Rows X K → List X
rows_left s = s.run.now ++ drop s.position s.table.now
