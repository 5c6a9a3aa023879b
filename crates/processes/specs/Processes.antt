-- Actors as processes that are killed at any moment: what each of them does, and what leaves it.
use Rattle.std.specs.Prelude.{◌≡◌, ◌≢◌, ⊤, List, [], ◌∷◌, ◌++◌, map}

-- What there is of actors: K are their names, A what they are, P what they store, I what they take
-- and M what they send.
pub record Actors (K A P I M : Type 0) : Type 1 where
  -- what is stored of an actor, and the actor that begins with what is stored
  pub stored : A → P
  pub restarted : P → A
  -- what an empty store stands for
  pub initial : K → P
  -- there is one of this name
  pub IsOne : K → Type 0
  -- where these messages left an actor: the one of this name takes an input that may come to it,
  -- and is another then, and sends something
  pub Takes : List M → K → A → I → A → List M → Type 0

module _ {K A P I M : Type 0} (actors : Actors K A P I M) where
  -- What a process is doing: nothing yet; nothing any more; or it runs. Then it has its actor, all
  -- that the actor was since it last stored (once for each item that it took), what these items
  -- send, and what earlier items send and has not left.
  pub data ProcessLife : Type 0 where
    NotStarted : ProcessLife
    Killed : ProcessLife
    Up : (actor : A) (unsaved : List A) (held ready : List M) → ProcessLife

  -- what its store stands for outlasts it
  pub record Process : Type 0 where
    pub store : P
    pub life : ProcessLife

  abbrev pub up_with : P → A → List A → List M → List M → Process
  up_with store a unsaved held ready =
      record { store = store; life = Up a unsaved held ready }

  abbrev pub IsNotUp : ProcessLife → Type 0
  IsNotUp NotStarted = ⊤
  IsNotUp Killed = ⊤
  IsNotUp (Up actor unsaved held ready) = ⊥

  -- what a process may have told of itself: its actor was this
  pub record ToldActor : Type 0 where
    pub who : K
    pub actor : A

  abbrev pub told_by : K → A → ToldActor
  told_by k a = record { who = k; actor = a }

  -- the processes, all messages that ever left one, and all that any may have told
  pub record System : Type 0 where
    pub process : K → Process
    pub left : List M
    pub told : List ToldActor

  -- before anything happens
  abbrev pub new_system : System
  new_system = record {
    process = λ k. record { store = actors.initial k; life = NotStarted };
    left = [];
    told = [];
  }

  -- the process of this name is this one from now on, this has left and was told, and the others
  -- are as they were
  pub record Becomes (g : System) (k : K) (store : P) (life : ProcessLife)
      (left : List M) (told : List ToldActor) (next : System) : Type 0 where
    pub here : next.process k ≡ record { store = store; life = life }
    pub others : (j : K) → j ≢ k → next.process j ≡ g.process j
    pub left_is : next.left ≡ left
    pub told_is : next.told ≡ told

  -- What may happen, and what it leads to. An item that is refused changes nothing.
  pub data SystemStep (g : System) : System → Type 0 where
    -- the process comes up with what its store stands for
    comes_up : (k : K) (store : P) (life : ProcessLife) (next : System) →
        actors.IsOne k →
        g.process k ≡ record { store = store; life = life } → IsNotUp life →
        Becomes g k store (Up (actors.restarted store) [] [] [])
        g.left (g.told ++ told_by k (actors.restarted store) ∷ []) next →
        SystemStep g next
    -- it takes an item, and nothing of it is stored yet
    takes_item : (k : K) (store : P) (a b : A) (unsaved : List A) (held ready : List M)
        (input : I) (out : List M) (next : System) →
        g.process k ≡ up_with store a unsaved held ready →
        actors.Takes g.left k a input b out →
        Becomes g k store (Up b (unsaved ++ b ∷ []) (held ++ out) ready)
        g.left g.told next →
        SystemStep g next
    -- what it took is stored, whatever else happened since it was taken
    saves : (k : K) (store : P) (a : A) (unsaved : List A) (held ready : List M)
        (next : System) →
        g.process k ≡ up_with store a unsaved held ready →
        Becomes g k (actors.stored a) (Up a [] [] (ready ++ held))
        g.left (g.told ++ map (told_by k) unsaved) next →
        SystemStep g next
    -- the first message that may leave it leaves
    message_leaves : (k : K) (store : P) (a : A) (unsaved : List A) (held ready : List M)
        (message : M) (next : System) →
        g.process k ≡ up_with store a unsaved held (message ∷ ready) →
        Becomes g k store (Up a unsaved held ready)
        (g.left ++ message ∷ []) g.told next →
        SystemStep g next
    -- It ends, or is killed: what it took and did not store is lost, and what had not left never
    -- leaves.
    dies : (k : K) (store : P) (a : A) (unsaved : List A) (held ready : List M)
        (next : System) →
        g.process k ≡ up_with store a unsaved held ready →
        Becomes g k store Killed g.left g.told next →
        SystemStep g next

  -- an execution: the systems before the last one, and the last one
  pub data Execution : List System → System → Type 0 where
    begun : Execution [] new_system
    continued : {past : List System} {g : System} (next : System) →
        Execution past g → SystemStep g next → Execution (past ++ g ∷ []) next
