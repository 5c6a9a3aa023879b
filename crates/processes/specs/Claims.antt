-- What is said of a run of processes.
use Rattle.std.specs.Prelude.{◌≡◌, ℕ, ◌≤◌, Option, Some, List, [], ◌∷◌, ◌++◌, slice_get}
use Rattle.processes.specs.Processes.{Actors, ProcessLife, NotStarted, Killed, Up, System}
use Rattle.processes.specs.Processes.{ToldActor}

-- What processes refine, a world of actors: its runs (the events, the worlds before the last one,
-- and that one), the actor of a name, and all that was ever sent.
pub record Abstraction (K A M E W : Type 0) : Type 1 where
  pub Reach : List E → List W → W → Type 0
  pub actor : W → K → Option A
  pub sent : W → List M

abbrev pub OccursIn : {M : Type 0} → List M → M → Type 0
OccursIn sent x = (place : ℕ) × (slice_get sent place ≡ Some x)

module _ {K A P I M : Type 0} (actors : Actors K A P I M) where
  -- by items that may come to it the actor of this name came from `base` to another, by way of
  -- these, and sends this
  pub data TakesInTurn (k : K) (sent : List M) (base : A) : A → List A → List M → Type 0 where
    took_none : TakesInTurn k sent base base [] []
    one_more : {a : A} {unsaved : List A} {out : List M} (input : I) (b : A) (more : List M) →
        TakesInTurn k sent base a unsaved out → actors.Takes sent k a input b more →
        TakesInTurn k sent base b (unsaved ++ b ∷ []) (out ++ more)

  module _ {E W : Type 0} (above : Abstraction K A M E W) (stop : P → A) where
    -- the actor of a name at a moment of a run
    pub record WasAt (past : List W) (w : W) (l : ℕ) (k : K) (a : A) : Type 0 where
      pub world : W
      pub world_is : slice_get (past ++ w ∷ []) l ≡ Some world
      pub here : above.actor world k ≡ Some a

    -- A process that runs: the world's actor is what the process's was when it last stored, and has
    -- stored what the process has; what the process took since then leads from it to what it is.
    pub record RunsAhead (k : K) (w : W) (store : P) (a : A) (unsaved : List A)
        (held ready : List M) : Type 0 where
      pub base : A
      pub here : above.actor w k ≡ Some base
      pub stored : actors.stored base ≡ store
      pub taken : TakesInTurn k (above.sent w) base a unsaved held
      pub sends : (x : M) → OccursIn ready x → OccursIn (above.sent w) x

    -- one that was never started is as at first, and one that was killed is stopped
    abbrev pub AgreesIn : K → W → P → ProcessLife actors → Type 0
    AgreesIn k w store NotStarted = (store ≡ actors.initial k)
        × (actors.IsOne k → above.actor w k ≡ Some (actors.restarted (actors.initial k)))
    AgreesIn k w store Killed = above.actor w k ≡ Some (stop store)
    AgreesIn k w store (Up a unsaved held ready) = RunsAhead k w store a unsaved held ready

    -- the one was so at some moment, and the other at that moment or later
    pub record WereInOrder (past : List W) (w : W) (t u : ToldActor actors) : Type 0 where
      pub first : ℕ
      pub second : ℕ
      pub order : first ≤ second
      pub first_at : WasAt past w first t.who t.actor
      pub second_at : WasAt past w second u.who u.actor

    -- At this moment of a run the world is so: its actors are the processes, and each message that
    -- left one was sent.
    pub record Matches (past : List W) (w : W) (l : ℕ) (g : System actors) : Type 0 where
      pub world : W
      pub world_is : slice_get (past ++ w ∷ []) l ≡ Some world
      pub processes : (k : K) → AgreesIn k world (g.process k).store (g.process k).life
      pub left : (x : M) → OccursIn g.left x → OccursIn (above.sent world) x

    -- A run of the world that this execution refines: at each moment of theirs there is a moment of
    -- it, in the same order, at which the world is so; and what a process may have told was so at
    -- some moment, in the order in which it was told.
    pub record RefinesWorld (before : List (System actors)) (g : System actors) : Type 0 where
      pub events : List E
      pub past : List W
      pub world : W
      pub reach : above.Reach events past world
      pub place : ℕ → ℕ
      pub same : (k : ℕ) (x : System actors) → slice_get (before ++ g ∷ []) k ≡ Some x →
          Matches past world (place k) x
      pub ordered : (k l : ℕ) → k ≤ l → place k ≤ place l
      pub told : (k l : ℕ) (t u : ToldActor actors) → k ≤ l → slice_get g.told k ≡ Some t →
          slice_get g.told l ≡ Some u → WereInOrder past world t u
