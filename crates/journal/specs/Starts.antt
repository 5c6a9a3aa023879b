-- What a process starts from: what the records of its journal stand for, and what is wrong with them.
use Rattle.std.specs.Prelude.{◌≡◌, ℕ, Some, None, Ok, Err, List, ◌++◌, drop}
use Rattle.std.specs.List.{flat_map, AllByRecursion}
use Rattle.journal.specs.Journals.{IsJournal}
use Rattle.journal.specs.Records.{wal_record}
use Rattle.journal.specs.Replays.{Replay, replayed}
use Rattle.journal.specs.Tails.{MayBeTorn}

module _ {P : Type 0} (k : Replay P) where
  -- the records between these offsets stand for this part
  pub record ReplaysUpTo (bytes : List ℕ) (start at : ℕ) (part : P) : Type 0 where
    pub payloads : List (List ℕ)
    pub fits : AllByRecursion wal_record.Fits payloads
    pub is : drop start bytes ≡ flat_map wal_record.text payloads ++ drop at bytes
    pub part_is : replayed k payloads ≡ Some part

  -- records stand for this part, and behind them a torn one at most
  pub record ReplaysTo (bytes : List ℕ) (part : P) : Type 0 where
    pub payloads : List (List ℕ)
    pub tail : List ℕ
    pub journal : IsJournal wal_record bytes payloads tail
    pub torn : MayBeTorn tail
    pub part_is : replayed k payloads ≡ Some part

  -- they do so behind the header
  abbrev pub IsKeptIn : List ℕ → List ℕ → P → Type 0
  IsKeptIn header bytes part = (behind : List ℕ) × (bytes ≡ header ++ behind) × ReplaysTo behind part

  -- What is wrong with records from an offset on, and where: at the front stands none, or one that
  -- is no whole; or behind those that stand for a part there is one that does not follow, or no
  -- record and no torn one.
  pub data FaultAt (bytes : List ℕ) (start place : ℕ) : Type 0 where
    no_record : (x : ℕ) → place ≡ start → wal_record.read bytes start ≡ Err x → FaultAt bytes start place
    no_whole : (payload : List ℕ) (next : ℕ) → place ≡ start → wal_record.read bytes start ≡ Ok (payload, next) → k.whole payload ≡ None → FaultAt bytes start place
    no_change : (part : P) (payload : List ℕ) (next : ℕ) → ReplaysUpTo bytes start place part → wal_record.read bytes place ≡ Ok (payload, next)
        → k.after part payload ≡ None → FaultAt bytes start place
    no_tail : (part : P) (x : ℕ) → ReplaysUpTo bytes start place part → wal_record.read bytes place ≡ Err x → (MayBeTorn (drop place bytes) → ⊥) → FaultAt bytes start place
