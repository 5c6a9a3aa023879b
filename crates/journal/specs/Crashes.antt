-- What a crash leaves of an actor's process, at any moment.
use Rattle.std.specs.Prelude.{◌≡◌, ◌⊎◌, ℕ, Some, List, [], ◌∷◌, ◌++◌}
use Rattle.std.specs.List.{flat_map}
use Rattle.fields_model.specs.Format.{Format}
use Rattle.journal.specs.Journals.{IsTorn}
use Rattle.journal.specs.Events.{IoEvent, RecordAppended, records_after}
use Rattle.journal.specs.Replays.{Replay, replayed}
use Rattle.journal.specs.Serving.{TakesBatches}

module _ {V P : Type 0} (k : Replay P) (part : V → P) (Turn : List ℕ → V → V → List IoEvent → Type 0) where
  -- These events are the first, or all, of those to which some first batches lead; and the
  -- journal's payloads stand for what the actor stores after just these batches.
  pub record StoreLeftBy (before : List (List ℕ)) (old : V) (done : List IoEvent) : Type 0 where
    pub left : List ℕ
    pub last : V
    pub events : List IoEvent
    pub serves : TakesBatches k part Turn [] old left last events
    pub others : List IoEvent
    pub begun : events ≡ done ++ others
    pub store : replayed k (records_after before done) ≡ Some (part last)

  -- What is read after a crash: what the journal has after what happened, or after one more record
  -- that was being appended; and that is what the actor stores after some first batches.
  pub record IsReadBack (before : List (List ℕ)) (old : V) (done : List IoEvent) (payloads : List (List ℕ)) : Type 0 where
    pub more : List IoEvent
    pub only : (more ≡ []) ⊎ ((payload : List ℕ) × (more ≡ RecordAppended payload ∷ []))
    pub read : payloads ≡ records_after before (done ++ more)
    pub leaves : StoreLeftBy before old (done ++ more)

-- A crash where these events had happened, of all: between two of them, or while a record is put
-- behind the others. The file is what it leaves behind the journal's first line. (While another
-- journal takes the journal's place, there is the one or the other.)
pub data CrashLeaves (f : Format (List ℕ)) (before : List (List ℕ)) (all : List IoEvent) (done : List IoEvent) (file : List ℕ) : Type 0 where
  between : (others : List IoEvent) → all ≡ done ++ others
      → file ≡ flat_map f.text (records_after before done) → CrashLeaves f before all done file
  within : (payload : List ℕ) (others : List IoEvent) (tail : List ℕ) → all ≡ done ++ RecordAppended payload ∷ others
      → f.Fits payload → IsTorn f payload tail
      → file ≡ flat_map f.text (records_after before done) ++ tail → CrashLeaves f before all done file
