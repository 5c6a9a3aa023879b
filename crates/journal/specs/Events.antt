-- What passes between a process and the world outside.
use Rattle.std.specs.Prelude.{⊤, ℕ, List, [], ◌∷◌, ◌++◌}

pub data IoEvent : Type 0 where
  -- these bytes came from the input, which has more or not; and it was found at its end
  BytesCame : (bytes : List ℕ) → IoEvent
  InputEnded : IoEvent
  -- a record of this payload came behind those of the journal, and was synced
  RecordAppended : (payload : List ℕ) → IoEvent
  -- a journal of one record, of this payload, took the place of the journal, and was synced
  JournalReplaced : (payload : List ℕ) → IoEvent
  -- these bytes went to the output, and these to the standard error
  BytesSent : (bytes : List ℕ) → IoEvent
  LineReported : (line : List ℕ) → IoEvent

-- the payloads that the journal has after some events, if it had these before
abbrev pub records_after : List (List ℕ) → List IoEvent → List (List ℕ)
records_after before [] = before
records_after before (BytesCame bytes ∷ events) = records_after before events
records_after before (InputEnded ∷ events) = records_after before events
records_after before (RecordAppended payload ∷ events) = records_after (before ++ payload ∷ []) events
records_after before (JournalReplaced payload ∷ events) = records_after (payload ∷ []) events
records_after before (BytesSent bytes ∷ events) = records_after before events
records_after before (LineReported line ∷ events) = records_after before events

-- all of these go to the output or the standard error
abbrev pub AreOutputs : List IoEvent → Type 0
AreOutputs [] = ⊤
AreOutputs (BytesCame bytes ∷ events) = ⊥
AreOutputs (InputEnded ∷ events) = ⊥
AreOutputs (RecordAppended payload ∷ events) = ⊥
AreOutputs (JournalReplaced payload ∷ events) = ⊥
AreOutputs (BytesSent bytes ∷ events) = AreOutputs events
AreOutputs (LineReported line ∷ events) = AreOutputs events
