-- What is read of a store.
use Rattle.std.proofs.Common.{◌≡◌, ℕ, inl, List, ◌++◌, Option, Some, Result, Ok, Err, IfOk, IfErr, length, drop, sym, subst}
use Rattle.std.specs.Prelude.{codes}
use Rattle.machine_model.specs.MachineSpec.{MachineSpec}
use Rattle.raft_snapshot.specs.Stored.{Stored}
use Rattle.journal.specs.Starts.{FaultAt, ReplaysTo}
use Rattle.raft_records.specs.Records.{raft_replay}
use Rattle.raft_records.specs.declared.reading.Unread.{Unread}
use Rattle.raft_records.specs.declared.reading.Unread.TheVariants as unread
use Rattle.raft_records.specs.Starts.{IsAnothers, IsBadStore, IsStored}

-- the records of a store stand behind its header
pub behind_header : {S C E : Type 0} (m : MachineSpec S C) (header bytes : List ℕ) (stored : Option (List ℕ)) (read : Result (Stored S C) E) → stored ≡ Some bytes
    → bytes ≡ header ++ drop (length header) bytes → IfOk read (ReplaysTo (raft_replay m) (drop (length header) bytes)) → IfOk read (IsStored m header stored)
behind_header m header bytes stored (Err e) is split so = tt
behind_header m header bytes stored (Ok part) is split so =
    subst (λ (z : Option (List ℕ)). IsStored m header z part) (sym is) (inl (drop (length header) bytes, split, so))

module _ {S C : Type 0} (m : MachineSpec S C) where
  pub bad_behind : {T : Type 0} (header bytes : List ℕ) (stored : Option (List ℕ)) (r : Result T Unread) → stored ≡ Some bytes
      → IfErr r (λ error. (place : ℕ) → error ≡ unread.At place → FaultAt (raft_replay m) bytes (length header) place) → IfErr r (λ error. (place : ℕ) → error ≡ unread.At place → IsBadStore m header stored place)
  bad_behind header bytes stored (Ok x) is why = tt
  bad_behind header bytes stored (Err fault) is why = λ place e. subst (λ o. IsBadStore m header o place) (sym is) (inl (why place e))

-- a journal's own records are not another's
pub own_only : {T : Type 0} (r : Result T Unread) (P : Type 0) → IfErr r (λ error. error ≡ unread.Another → ⊥) → IfErr r (λ error. error ≡ unread.Another → P)
own_only (Ok x) P never = tt
own_only (Err error) P never = λ is. absurd (never is)

pub anothers_there : (header bytes behind : List ℕ) (stored : Option (List ℕ)) → stored ≡ Some bytes → bytes ≡ codes "minutebarn journal " ++ behind
    → ((rest : List ℕ) → bytes ≡ header ++ rest → ⊥) → IsAnothers header stored
anothers_there header bytes behind stored is front other = subst (λ o. IsAnothers header o) (sym is) ((behind, front), other)
