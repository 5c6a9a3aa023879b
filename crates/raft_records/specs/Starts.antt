-- What a node starts from.
use Rattle.std.specs.Prelude.{◌≡◌, ◌⊎◌, ℕ, Option, Some, None, Err, List, [], ◌++◌, codes, length}
use Rattle.machine_model.specs.MachineSpec.{MachineSpec}
use Rattle.raft_snapshot.specs.Kept.{kept}
use Rattle.raft_snapshot.specs.Stored.{Stored}
use Rattle.raft_snapshot.specs.Texts.{IsStableText, stable_at}
use Rattle.journal.specs.Starts.{FaultAt, IsKeptIn}
use Rattle.raft_records.specs.Records.{raft_replay}

module _ {S C : Type 0} (m : MachineSpec S C) where
  -- what a server stores before its first item
  abbrev pub new_part : Stored S C
  new_part = record { term = 0; vote = None; log = kept m (record { index = 0; term = 0; state = m.empty }) [] }

  -- What the store has, if it is there: a journal of this part, or the bare text of it, as older
  -- versions stored it. Else the part is new.
  abbrev pub IsStored : List ℕ → Option (List ℕ) → Stored S C → Type 0
  IsStored header None part = part ≡ new_part
  IsStored header (Some bytes) part = IsKeptIn (raft_replay m) header bytes part ⊎ IsStableText m part bytes

  -- what the store has is no stored part, and this is the offset of its first fault: in a journal,
  -- or in a bare text
  abbrev pub IsBadStore : List ℕ → Option (List ℕ) → ℕ → Type 0
  IsBadStore header None place = ⊥
  IsBadStore header (Some bytes) place = FaultAt (raft_replay m) bytes (length header) place ⊎ (stable_at m bytes ≡ Err place)

-- the store is a journal, and its first line is not this one
abbrev pub IsAnothers : List ℕ → Option (List ℕ) → Type 0
IsAnothers header None = ⊥
IsAnothers header (Some bytes) =
    ((behind : List ℕ) × (bytes ≡ codes "minutebarn journal " ++ behind))
    × ((behind : List ℕ) → bytes ≡ header ++ behind → ⊥)
