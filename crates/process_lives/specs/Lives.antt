-- What processes did that serve actors, in one order: each begins, does what the loop of `journal`
-- does, and is ended or killed at any moment, again and again.
use Rattle.std.specs.Prelude.{◌≡◌, ◌≢◌, ◌⊎◌, ⊤, ℕ, Option, Some, None, List, [], ◌∷◌, ◌++◌}
use Rattle.std.specs.Prelude.{slice_get}
use Rattle.std.specs.List.{flat_map, AllByRecursion}
use Rattle.wire.specs.Frames.{sized}
use Rattle.journal.specs.Records.{wal_record}
use Rattle.journal.specs.Journals.{IsJournal}
use Rattle.journal.specs.Replays.{Replay, replayed}
use Rattle.journal.specs.Events.{IoEvent, BytesCame, InputEnded, RecordAppended, JournalReplaced}
use Rattle.journal.specs.Events.{BytesSent, LineReported, records_after}
use Rattle.journal.specs.Serving.{ProcessRuns}
use Rattle.journal.specs.Crashes.{CrashLeaves}

-- it begins; it does something; it ends, or is killed
pub data Happening : Type 0 where
  Begins : Happening
  Does : (event : IoEvent) → Happening
  Ends : Happening

-- Code that is run as processes: how what the actor of a name stores is kept, what it makes of an
-- item, the actor of the process of a name that begins where its journal has these bytes or none,
-- that journal's first line, and the items that are frames.
pub record Code (K V P : Type 0) : Type 1 where
  pub replay : K → Replay P
  pub part : V → P
  pub Turn : List ℕ → V → V → List IoEvent → Type 0
  pub BeginsWith : K → Option (List ℕ) → V → Type 0
  pub header : K → List ℕ
  pub IsFrame : List ℕ → Type 0

-- a process, between two happenings: it runs, began with this actor, and has done this since; or
-- it does not run
pub data Running (V : Type 0) : Type 0 where
  Idle : Running V
  Serves : (first : V) (done : List IoEvent) → Running V

-- what is known of its journal: nothing was ever done to it; or the last process that did anything
-- had done these, and not the others, when it ended
pub data Journal : Type 0 where
  NoJournal : Journal
  LeftBy : (done others : List IoEvent) → Journal

pub record Process (V : Type 0) : Type 0 where
  pub journal : Journal
  pub running : Running V

-- all bytes that came from the input
abbrev pub came : List IoEvent → List ℕ
came [] = []
came (BytesCame bytes ∷ events) = bytes ++ came events
came (InputEnded ∷ events) = came events
came (RecordAppended payload ∷ events) = came events
came (JournalReplaced payload ∷ events) = came events
came (BytesSent bytes ∷ events) = came events
came (LineReported line ∷ events) = came events

-- what happened to all processes, where the last stands first; a process did this
abbrev pub Past : Type 0 → Type 0
Past K = List (K × Happening)

abbrev pub HasDone : {K : Type 0} → Past K → K → IoEvent → Type 0
HasDone past k event = (place : ℕ) × (slice_get past place ≡ Some (k, Does event))

-- some process put these bytes to its output
abbrev pub HadLeft : {K : Type 0} → Past K → List ℕ → Type 0
HadLeft {K = K} past bytes = (k : K) × HasDone past k (BytesSent bytes)

-- these bytes, behind a journal's first line, are read as this
pub record IsReadAs {P : Type 0} (replay : Replay P) (file : List ℕ) (part : P) : Type 0 where
  pub payloads : List (List ℕ)
  pub tail : List ℕ
  pub journal : IsJournal wal_record file payloads tail
  pub part_is : replayed replay payloads ≡ Some part

module _ {K V P : Type 0} (c : Code K V P) where
  -- all that a process does that begins with this actor and is let alone, up to its input's end
  pub record IsWhole (k : K) (first : V) (all : List IoEvent) : Type 0 where
    pub left : List ℕ
    pub last : V
    pub events : List IoEvent
    pub runs : ProcessRuns (c.replay k) c.part c.Turn first left last events
    pub is : all ≡ events ++ InputEnded ∷ []

  -- What a process finds: behind the journal's first line what a kill leaves, where these were
  -- done, and not the others. (`CrashLeaves`: an append that was under way is there, or in part, or
  -- is not.)
  pub record StoreLeft (k : K) (done others : List IoEvent)
      (store : Option (List ℕ)) : Type 0 where
    pub file : List ℕ
    pub leaves : CrashLeaves wal_record [] (done ++ others) done file
    pub fits : AllByRecursion wal_record.Fits (records_after [] done)
    pub is : store ≡ Some (c.header k ++ file)

  -- Each time that a process begins it may find another of these: what an append under way left is
  -- not synced.
  abbrev pub MayFind : K → Journal → Option (List ℕ) → Type 0
  MayFind k NoJournal store = store ≡ None
  MayFind k (LeftBy done others) store = StoreLeft k done others store

  -- The transport alters no frame: of all that came to a process by now, each whole item that is a
  -- frame had left a process before.
  abbrev pub IsCarried : Past K → List IoEvent → IoEvent → Type 0
  IsCarried past done (BytesCame bytes) = (items : List (List ℕ)) (rest : List ℕ) →
      came done ++ bytes ≡ flat_map sized items ++ rest →
      AllByRecursion (λ item. c.IsFrame item → HadLeft past (sized item)) items
  IsCarried past done InputEnded = ⊤
  IsCarried past done (RecordAppended payload) = ⊤
  IsCarried past done (JournalReplaced payload) = ⊤
  IsCarried past done (BytesSent bytes) = ⊤
  IsCarried past done (LineReported line) = ⊤

  -- what happens to the process of this name, after this past of all
  pub data Goes (k : K) (past : Past K) : Process V → Happening → Process V → Type 0 where
    begins : (journal : Journal) (store : Option (List ℕ)) (first : V) →
        MayFind k journal store → c.BeginsWith k store first →
        Goes k past (record { journal = journal; running = Idle })
        Begins (record { journal = journal; running = Serves first [] })
    does : (journal : Journal) (first : V) (done : List IoEvent) (event : IoEvent) →
        IsCarried past done event →
        Goes k past (record { journal = journal; running = Serves first done })
        (Does event) (record { journal = journal; running = Serves first (done ++ event ∷ []) })
    -- before it has done anything
    ends_at_once : (journal : Journal) (first : V) →
        Goes k past (record { journal = journal; running = Serves first [] })
        Ends (record { journal = journal; running = Idle })
    ends : (journal : Journal) (first : V) (done others : List IoEvent) → done ≢ [] →
        IsWhole k first (done ++ others) →
        Goes k past (record { journal = journal; running = Serves first done })
        Ends (record { journal = LeftBy done others; running = Idle })

  -- one process through all that happened: it came to this
  abbrev pub CameTo : K → Past K → Process V → Type 0
  CameTo k [] p = p ≡ record { journal = NoJournal; running = Idle }
  CameTo k ((j, x) ∷ past) p = (q : Process V) × CameTo k past q
      × (((j ≢ k) × (p ≡ q)) ⊎ ((j ≡ k) × Goes k past q x p))

  -- what it did is the first of what it does if it is let alone
  abbrev pub IsUnderWay : K → Running V → Type 0
  IsUnderWay k Idle = ⊤
  IsUnderWay k (Serves first done) =
      (done ≡ []) ⊎ ((others : List IoEvent) × IsWhole k first (done ++ others))

  -- processes came to these
  pub record Lived (past : Past K) (now : K → Process V) : Type 0 where
    pub each : (k : K) → CameTo k past (now k)
    pub under_way : (k : K) → IsUnderWay k (now k).running
