-- What may stand behind the whole records of a journal.
use Rattle.std.specs.Prelude.{◌≡◌, ◌<◌, ◌≤◌, ◌^◌, ℕ, List, ◌++◌, length}
use Rattle.fields_model.specs.Format.{spelled}

-- A tail that a crash may leave: fewer bytes than a record has in front of its payload, or these,
-- and no more bytes than its length says. Any other tail is a record that was damaged, with bytes
-- behind it, and is refused.
pub data MayBeTorn (tail : List ℕ) : Type 0 where
  short : length tail < 12 → MayBeTorn tail
  cut : (sum : List ℕ) (size : ℕ) (rest : List ℕ) → length sum ≡ 8 → size < 2 ^ 32 → tail ≡ sum ++ (spelled 4 size ++ rest) → length rest ≤ size → MayBeTorn tail
