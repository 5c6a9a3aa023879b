-- Which files may be made.
use Rattle.std.specs.Prelude.{◌≡◌, ◌≢◌, ℕ, List, Option, Some, codes}

-- A file of this name may be made once the one of the other name was read, if one was: it is not
-- that one, and not `-`, which stands for the standard input.
abbrev pub MayBeMade : List ℕ → Option (List ℕ) → Type 0
MayBeMade name read = (name ≢ codes "-") × (read ≢ Some name)

-- two files lie at two places, or one of them nowhere
abbrev pub LieApart : Option (List ℕ) → Option (List ℕ) → Type 0
LieApart one other = (path : List ℕ) → one ≡ Some path → other ≢ Some path
