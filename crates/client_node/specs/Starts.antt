-- What a client's process starts from.
use Rattle.std.specs.Prelude.{◌≡◌, ℕ, Option, Some, None, List, [], ◌++◌, length}
use Rattle.rows.specs.declared.allocation.AllocId.{AllocId}
use Rattle.journal.specs.Starts.{FaultAt, IsKeptIn}
use Rattle.client_node.specs.Records.{started_replay}

-- What the store has, if it is there: behind the header a journal of these ids. Else there are none.
abbrev pub IsStored : List ℕ → Option (List ℕ) → List AllocId → Type 0
IsStored header None ids = ids ≡ []
IsStored header (Some bytes) ids = IsKeptIn started_replay header bytes ids

-- the store begins with this header, and this is the offset of the first fault behind it
abbrev pub IsBadStore : List ℕ → Option (List ℕ) → ℕ → Type 0
IsBadStore header None place = ⊥
IsBadStore header (Some bytes) place = FaultAt started_replay bytes (length header) place

-- the store is there, and begins with another line
abbrev pub IsAnothers : List ℕ → Option (List ℕ) → Type 0
IsAnothers header None = ⊥
IsAnothers header (Some bytes) = (behind : List ℕ) → bytes ≡ header ++ behind → ⊥
