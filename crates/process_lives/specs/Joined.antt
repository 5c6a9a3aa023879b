-- What such processes have to do with those of `processes`.
use Rattle.std.specs.Prelude.{◌≡◌, ⊤, List, ℕ}
use Rattle.wire.specs.Frames.{sized}
use Rattle.journal.specs.Events.{IoEvent, BytesCame, InputEnded, RecordAppended, JournalReplaced}
use Rattle.journal.specs.Events.{BytesSent, LineReported}
use Rattle.processes.specs.Processes.{Actors, System, Execution, told_by}
use Rattle.processes.specs.Claims.{OccursIn}
use Rattle.process_lives.specs.Lives.{Code, Past, HasDone, HadLeft}

-- the bytes are those of an item whose frame carries this message
abbrev pub IsItemOf : {M : Type 0} → (List ℕ → M → Type 0) → List ℕ → M → Type 0
IsItemOf Carries bytes message =
    (frame : List ℕ) × (bytes ≡ sized frame) × Carries frame message

-- it goes to the output or the standard error
abbrev pub IsOutput : IoEvent → Type 0
IsOutput (BytesCame bytes) = ⊥
IsOutput InputEnded = ⊥
IsOutput (RecordAppended payload) = ⊥
IsOutput (JournalReplaced payload) = ⊥
IsOutput (BytesSent bytes) = ⊤
IsOutput (LineReported line) = ⊤

module _ {K V P A Q I M : Type 0} (c : Code K V P) (actors : Actors K A Q I M)
    (Shows : K → V → A → Type 0) (Carries : List ℕ → M → Type 0) where
  -- It was sent or reported by a turn, and the actors before and after that are such.
  pub record IsOfTurn (k : K) (IsSuch : A → Type 0) (event : IoEvent) : Type 0 where
    pub item : List ℕ
    pub old : V
    pub new : V
    pub outs : List IoEvent
    pub turn : c.Turn item old new outs
    pub among : OccursIn outs event
    pub before : A
    pub after : A
    pub shows_before : Shows k old before
    pub shows_after : Shows k new after
    pub such_before : IsSuch before
    pub such_after : IsSuch after

  -- There is an execution of the definitions' processes, in which each frame that left one is a
  -- message that left; and all that one sent or reported is of a turn of an actor that was told.
  pub record Joined (past : Past K) : Type 0 where
    pub before : List (System actors)
    pub last : System actors
    pub execution : Execution actors before last
    pub left : (item : List ℕ) → c.IsFrame item → HadLeft past (sized item) →
        (x : M) × OccursIn last.left x × Carries item x
    pub outputs : (k : K) (event : IoEvent) → IsOutput event → HasDone past k event →
        IsOfTurn k (λ a. OccursIn last.told (told_by actors k a)) event
