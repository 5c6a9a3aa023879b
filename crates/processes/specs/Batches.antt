-- A batch of items of one process, as nothing else happens meanwhile: taken, cut or dropped.
use Rattle.std.specs.Prelude.{◌≡◌, ℕ, List, [], ◌++◌}
use Rattle.rows.specs.declared.node.NodeSpec.{NodeSpec}
use Rattle.group_model.specs.Messages.{GroupMessage}
use Rattle.processes.specs.Processes.{Actors, ProcessLife, Killed, Up, System, SystemStep}
use Rattle.processes.specs.Claims.{TakesInTurn}
use Rattle.processes.specs.Groups.{Who, GroupActor, group_actors}

module _ {K A P I M : Type 0} (actors : Actors K A P I M) where
  -- some happenings, one after the other
  pub data SystemSteps (g : System actors) : System actors → Type 0 where
    no_step : SystemSteps g g
    then_step : {h : System actors} (last : System actors) →
        SystemSteps g h → SystemStep actors h last → SystemSteps g last

  -- they lead to a system in which this process is so, and what left
  abbrev pub CanBecome : System actors → K → P → ProcessLife actors → List M → System actors →
      Type 0
  CanBecome g k store life left last =
      SystemSteps g last
      × (last.process k ≡ record { store = store; life = life }) × (last.left ≡ left)

  -- A process took nothing since it stored, and all that it sent has left; and by these items its
  -- actor comes to another, and sends this.
  pub record IsBatch (g : System actors) (k : K) (a b : A) (unsaved : List A)
      (out : List M) : Type 0 where
    pub is : g.process k ≡ record { store = actors.stored a; life = Up a [] [] [] }
    pub taken : TakesInTurn actors k g.left a b unsaved out

  -- Taken: it is stored, and all of it leaves. Cut: it is stored, and some first messages leave, or
  -- none; then the process is killed. Dropped: the process is killed before it stored.
  pub record MayHappen (g : System actors) (k : K) (a b : A) (unsaved : List A)
      (out : List M) : Type 0 where
    pub taken : (last : System actors)
        × CanBecome g k (actors.stored b) (Up b [] [] []) (g.left ++ out) last
    pub cut : (front back : List M) → out ≡ front ++ back → (last : System actors)
        × CanBecome g k (actors.stored b) Killed (g.left ++ front) last
    pub dropped : (last : System actors)
        × CanBecome g k (actors.stored a) Killed g.left last

-- of each group of servers and clients
abbrev pub EachBatchMayHappen : Type 0
EachBatchMayHappen = (n : ℕ) (nodes : List NodeSpec) (g : System (group_actors n nodes))
    (k : Who) (a b : GroupActor) (unsaved : List GroupActor) (out : List GroupMessage) →
    IsBatch (group_actors n nodes) g k a b unsaved out →
    MayHappen (group_actors n nodes) g k a b unsaved out
