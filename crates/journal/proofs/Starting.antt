-- The records of a journal, read one after the other.
use Rattle.std.proofs.Common.{◌≡◌, ◌∙◌, ℕ, List, [], ◌∷◌, ◌++◌, Option, Some, None, Result, Ok, Err, length, drop, ap, sym, refl, subst, append_assoc}
use Rattle.std.specs.List.{flat_map, AllByRecursion}
use Rattle.std.proofs.lemmas.List.{append-nil}
use Rattle.std.proofs.lemmas.Grind.{flat_map-append}
use Rattle.fields_model.specs.Format.{IsBytes}
use Rattle.journal.specs.Records.{wal_record}
use Rattle.journal.specs.Replays.{Replay, replayed_on, replayed}
use Rattle.journal.specs.Starts.{FaultAt, ReplaysTo, ReplaysUpTo, no_change, no_tail}
use Rattle.journal.specs.Tails.{MayBeTorn}
use Rattle.journal.proofs.RecordLaws.{record_lawful}

all_push : {A : Type 0} (P : A → Type 0) (xs : List A) (x : A) → AllByRecursion P xs → P x → AllByRecursion P (xs ++ x ∷ [])
all_push P [] x all p = (p, tt)
all_push P (y ∷ xs) x all p = (all.0, all_push P xs x all.1 p)

module _ {P : Type 0} (k : Replay P) where
  -- one more change
  begun : (r : Option P) (part : P) → r ≡ Some part → replayed_on k r [] ≡ Some part
  begun r part e = ap (λ z. replayed_on k z []) e

  changed_more : (start : Option P) (ps : List (List ℕ)) (p : List ℕ) (old new : P) → replayed_on k start ps ≡ Some old → k.after old p ≡ Some new
      → replayed_on k start (ps ++ p ∷ []) ≡ Some new
  changed_more None ps p old new e a = let none : None ≡ Some old = e in absurd (cc none)
  changed_more (Some q) [] p old new e a = let same : q ≡ old = cc e in begun (k.after q p) new (ap (λ z. k.after z p) same ∙ a)
  changed_more (Some q) (f ∷ ps) p old new e a = changed_more (k.after q f) ps p old new e a

  replayed_more : (ps : List (List ℕ)) (p : List ℕ) (old new : P) → replayed k ps ≡ Some old → k.after old p ≡ Some new → replayed k (ps ++ p ∷ []) ≡ Some new
  replayed_more [] p old new e a = let none : None ≡ Some old = e in absurd (cc none)
  replayed_more (f ∷ ps) p old new e a = changed_more (k.whole f) ps p old new e a

  module _ (bytes : List ℕ) (fits : IsBytes bytes) (start : ℕ) where
    module _ (at : ℕ) (payload : List ℕ) (next : ℕ) (read : wal_record.read bytes at ≡ Ok (payload, next)) where
      -- one more record
      joined : (ps : List (List ℕ)) → drop start bytes ≡ flat_map wal_record.text ps ++ drop at bytes
          → drop start bytes ≡ flat_map wal_record.text (ps ++ payload ∷ []) ++ drop next bytes
      joined ps so =
          let front = flat_map wal_record.text ps in
          let text = wal_record.text payload in
          let here = (record_lawful.found bytes at payload next fits read).here in
          so ∙ ap (λ l. front ++ l) here ∙ sym (append_assoc front text (drop next bytes))
          ∙ ap (λ l. l ++ drop next bytes) (sym (flat_map-append wal_record.text ps (payload ∷ []) ∙ ap (λ l. front ++ l) (append-nil text)))

      pub read_more : (old new : P) → k.after old payload ≡ Some new → ReplaysUpTo k bytes start at old → ReplaysUpTo k bytes start next new
      read_more old new leads so = record {
        payloads = so.payloads ++ payload ∷ [];
        fits = all_push wal_record.Fits so.payloads payload so.fits (record_lawful.found bytes at payload next fits read).fits;
        is = joined so.payloads so.is;
        part_is = replayed_more so.payloads payload old new so.part_is leads;
      }

    pub read_first : (payload : List ℕ) (next : ℕ) (part : P) → wal_record.read bytes start ≡ Ok (payload, next)
        → k.whole payload ≡ Some part → ReplaysUpTo k bytes start next part
    read_first payload next part read is = record {
      payloads = payload ∷ [];
      fits = ((record_lawful.found bytes start payload next fits read).fits, tt);
      is = joined start payload next read [] refl;
      part_is = begun (k.whole payload) part is;
    }

    pub read_all : (at place : ℕ) (part : P) → wal_record.read bytes at ≡ Err place → MayBeTorn (drop at bytes)
        → ReplaysUpTo k bytes start at part → ReplaysTo k (drop start bytes) part
    read_all at place part none torn so = record {
      payloads = so.payloads;
      tail = drop at bytes;
      journal = record {
        fits = so.fits;
        is = so.is;
        ends = λ v rest fv here. let both = sym none ∙ record_lawful.only bytes at v rest fv here in absurd (cc both);
      };
      torn = torn;
      part_is = so.part_is;
    }

  pub fault_there : (bytes : List ℕ) (start at place : ℕ) (part : P) (payload : List ℕ) (next : ℕ) → place ≡ at → ReplaysUpTo k bytes start at part → wal_record.read bytes at ≡ Ok (payload, next)
      → k.after part payload ≡ None → FaultAt k bytes start place
  fault_there bytes start at place part payload next here so read none = subst (FaultAt k bytes start) (sym here) (no_change part payload next so read none)

  pub tail_there : (bytes : List ℕ) (start at place : ℕ) (part : P) (x : ℕ) → at ≡ place → ReplaysUpTo k bytes start at part → wal_record.read bytes at ≡ Err x
      → (MayBeTorn (drop at bytes) → ⊥) → FaultAt k bytes start place
  tail_there bytes start at place part x here so read whole = subst (FaultAt k bytes start) here (no_tail part x so read whole)
