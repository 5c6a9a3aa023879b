-- Lists of at most 64 items.
use Rattle.std.specs.Prelude.{◌≤◌, List, length}
use Rattle.std.specs.List.{AllByRecursion}

-- and the parts of each item are within their limits
abbrev pub BatchFits : {A : Type 0} → (A → Type 0) → List A → Type 0
BatchFits Fits xs = (length xs ≤ 64) × AllByRecursion Fits xs
