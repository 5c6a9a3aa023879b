-- Batches: some items taken one after the other, then what they changed of the stored part is
-- stored, and then all that they send and report leaves. (Group commit.)
use Rattle.std.specs.Prelude.{◌≡◌, ℕ, Some, List, [], ◌∷◌, ◌++◌}
use Rattle.journal.specs.Events.{IoEvent, RecordAppended, JournalReplaced, AreOutputs}
use Rattle.journal.specs.Replays.{Replay}

-- V: what a contract sees of the actor; Turn: what it makes of one item, with what it sends and
-- reports
module _ {V P : Type 0} (k : Replay P) (part : V → P) (Turn : List ℕ → V → V → List IoEvent → Type 0) where
  abbrev pub BatchTurns : List (List ℕ) → V → V → List IoEvent → Type 0
  BatchTurns [] old new outs = (outs ≡ []) × (new ≡ old)
  BatchTurns (item ∷ items) old new outs =
      (mid : V) × (first others : List IoEvent) × (outs ≡ first ++ others)
      × Turn item old mid first × BatchTurns items mid new others

  -- what is stored of a change: nothing, where there is none
  pub data SavesBatch (old new : V) (events : List IoEvent) : Type 0 where
    saves_nothing : part old ≡ part new → events ≡ [] → SavesBatch old new events
    saves_change : (payload : List ℕ) → k.after (part old) payload ≡ Some (part new) → events ≡ RecordAppended payload ∷ [] → SavesBatch old new events
    saves_whole : (payload : List ℕ) → k.whole payload ≡ Some (part new) → events ≡ JournalReplaced payload ∷ [] → SavesBatch old new events

  pub record IsDoneBatch (items : List (List ℕ)) (old new : V) (events : List IoEvent) : Type 0 where
    pub outs : List IoEvent
    pub turns : BatchTurns items old new outs
    pub only : AreOutputs outs
    pub store : List IoEvent
    pub stores : SavesBatch old new store
    pub is : events ≡ store ++ outs
