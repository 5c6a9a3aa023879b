-- What each process does alone, in the order in which all of it happens.
use Rattle.std.specs.Prelude.{◌≡◌, ◌≢◌, ◌⊎◌, List, [], ◌∷◌, ◌++◌}
use Rattle.processes.specs.Processes.{Actors, ProcessLife, NotStarted, Killed, up_with}
use Rattle.processes.specs.Processes.{IsNotUp, Process, System, Execution}

-- It starts; it reads an item and takes it; what it took is in its store; it sends a message; it
-- ends.
pub data Move (A I M : Type 0) : Type 0 where
  Starts : Move A I M
  ReadsItem : (input : I) (actor : A) (out : List M) → Move A I M
  Persists : Move A I M
  SendsMessage : (message : M) → Move A I M
  Exits : Move A I M

-- all that was sent, where the last move stands first
abbrev pub left_after : {K A I M : Type 0} → List (K × Move A I M) → List M
left_after [] = []
left_after ((k, Starts) ∷ moves) = left_after moves
left_after ((k, ReadsItem input actor out) ∷ moves) = left_after moves
left_after ((k, Persists) ∷ moves) = left_after moves
left_after ((k, SendsMessage message) ∷ moves) = left_after moves ++ message ∷ []
left_after ((k, Exits) ∷ moves) = left_after moves

module _ {K A P I M : Type 0} (actors : Actors K A P I M) where
  abbrev UpWith : P → A → List A → List M → List M → Process actors
  UpWith = up_with actors

  -- A move of a process, where these messages had left: what it may do by itself, but that a
  -- message which it takes is one that had left.
  pub data MayMake (k : K) (left : List M) :
      Process actors → Move A I M → Process actors → Type 0 where
    may_start : (store : P) (life : ProcessLife actors) → actors.IsOne k → IsNotUp actors life →
        MayMake k left (record { store = store; life = life })
        Starts (UpWith store (actors.restarted store) [] [] [])
    may_read : (store : P) (a b : A) (unsaved : List A) (held ready : List M)
        (input : I) (out : List M) →
        actors.Takes left k a input b out →
        MayMake k left (UpWith store a unsaved held ready)
        (ReadsItem input b out) (UpWith store b (unsaved ++ b ∷ []) (held ++ out) ready)
    may_persist : (store : P) (a : A) (unsaved : List A) (held ready : List M) →
        MayMake k left (UpWith store a unsaved held ready)
        Persists (UpWith (actors.stored a) a [] [] (ready ++ held))
    may_send : (store : P) (a : A) (unsaved : List A) (held ready : List M) (message : M) →
        MayMake k left (UpWith store a unsaved held (message ∷ ready))
        (SendsMessage message) (UpWith store a unsaved held ready)
    may_exit : (store : P) (a : A) (unsaved : List A) (held ready : List M) →
        MayMake k left (UpWith store a unsaved held ready)
        Exits (record { store = store; life = Killed })

  -- one process through all moves, the last of which stands first: it came to this by its own
  abbrev pub Alone : K → List (K × Move A I M) → Process actors → Type 0
  Alone k [] p = p ≡ record { store = actors.initial k; life = NotStarted }
  Alone k ((j, move) ∷ moves) p = (q : Process actors) × Alone k moves q
      × (((j ≢ k) × (p ≡ q)) ⊎ ((j ≡ k) × MayMake k (left_after moves) q move p))

  -- each of them came to these
  abbrev pub Each : List (K × Move A I M) → (K → Process actors) → Type 0
  Each moves process = (k : K) → Alone k moves (process k)

  -- an execution that came to them
  pub record ExecutionTo (moves : List (K × Move A I M)) (process : K → Process actors) :
      Type 0 where
    pub past : List (System actors)
    pub last : System actors
    pub execution : Execution actors past last
    pub same : (k : K) → last.process k ≡ process k
    pub left : last.left ≡ left_after moves
