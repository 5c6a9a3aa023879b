-- What an actor's process does from its first item on.
use Rattle.std.specs.Prelude.{◌≡◌, ℕ, Option, Some, List, [], ◌∷◌, ◌++◌}
use Rattle.std.specs.List.{flat_map}
use Rattle.wire.specs.Frames.{sized}
use Rattle.journal.specs.Events.{IoEvent, BytesCame, JournalReplaced, InputEnded}
use Rattle.journal.specs.Histories.{GoesOnBy, GoesOnByFirst}
use Rattle.journal.specs.Replays.{Replay}
use Rattle.journal.specs.Batches.{IsDoneBatch}

module _ {V P : Type 0} (k : Replay P) (part : V → P) (Turn : List ℕ → V → V → List IoEvent → Type 0) where
  -- Bytes come from the input, and the whole items that stand in front of what has come are taken
  -- as a batch. The first list is what had come before and was not taken, the other one what is
  -- left of it.
  pub data TakesBatches (pending : List ℕ) (old : V) : List ℕ → V → List IoEvent → Type 0 where
    took_none : TakesBatches pending old pending old []
    more_came : (before : List ℕ) (new : V) (events : List IoEvent) (bytes : List ℕ) →
        TakesBatches pending old before new events →
        TakesBatches pending old (before ++ bytes) new (events ++ BytesCame bytes ∷ [])
    took_batch : (before : List ℕ) (mid new : V) (events more : List IoEvent) (items : List (List ℕ)) (rest : List ℕ) →
        TakesBatches pending old before mid events → before ≡ flat_map sized items ++ rest → IsDoneBatch k part Turn items mid new more →
        TakesBatches pending old rest new (events ++ more)

  -- The whole of what it stores takes the place of what the journal had, and then it serves.
  pub record ProcessRuns (old : V) (left : List ℕ) (new : V) (events : List IoEvent) : Type 0 where
    pub payload : List ℕ
    pub whole : k.whole payload ≡ Some (part old)
    pub later : List IoEvent
    pub serves : TakesBatches [] old left new later
    pub is : events ≡ JournalReplaced payload ∷ later

  -- The process came to an end of its input at which nothing was left to take.
  pub record ProcessRunsToEnd (old new : V) (did does : Option (List IoEvent)) : Type 0 where
    pub events : List IoEvent
    pub runs : ProcessRuns old [] new events
    pub happened : GoesOnBy did does (events ++ InputEnded ∷ [])

  -- it came to input of which something is so
  pub record ProcessRunsTo (old new : V) (did does : Option (List IoEvent)) (ending : List IoEvent) (IsSuch : List ℕ → Type 0) : Type 0 where
    pub left : List ℕ
    pub events : List IoEvent
    pub runs : ProcessRuns old left new events
    pub happened : GoesOnBy did does (events ++ ending)
    pub such : IsSuch left

  -- Nothing has happened yet; or of what it was to do the first has happened, or all.
  pub data ProcessStops (old : V) (did does : Option (List IoEvent)) : Type 0 where
    at_once : GoesOnBy did does [] → ProcessStops old did does
    part_way : (left : List ℕ) (last : V) (events : List IoEvent) → ProcessRuns old left last events →
        GoesOnByFirst did does (events ++ InputEnded ∷ []) → ProcessStops old did does
