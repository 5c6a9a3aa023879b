-- The items of the input: a length in four bytes, the highest first, and so many bytes, at most
-- 16,777,216.
use Rattle.std.specs.Prelude.{ℕ, ◌≡◌, ◌≢◌, ◌<◌, ◌≤◌, ◌^◌, ◌++◌, List, [], length}
use Rattle.fields_model.specs.Format.{spelled}
use Rattle.wire.specs.Frames.{sized}

-- the most bytes of an item
abbrev pub most_bytes : ℕ
most_bytes = 16777216

-- at the front of these bytes stands the length of an item that is too long
pub record IsTooLong (bytes : List ℕ) (size : ℕ) : Type 0 where
  pub behind : List ℕ
  pub is : bytes ≡ spelled 4 size ++ behind
  pub long : (most_bytes < size) × (size < 2 ^ 32)

-- part of an item, but not all of it: of its four bytes of length, or of as many bytes as those say
pub data IsPartOfItem (bytes : List ℕ) : Type 0 where
  of_length : bytes ≢ [] → length bytes < 4 → IsPartOfItem bytes
  of_bytes : (size : ℕ) (part : List ℕ) → bytes ≡ spelled 4 size ++ part → size ≤ most_bytes → length part < size → IsPartOfItem bytes

-- an item stands at the front of these bytes, and this is behind it
pub record ItemStarts (bytes item rest : List ℕ) : Type 0 where
  pub is : bytes ≡ sized item ++ rest
  pub short : length item ≤ most_bytes
