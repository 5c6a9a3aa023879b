-- Parts of a run in which those that are down restart, as contracts of private functions say them.
use Rattle.std.specs.Prelude.{◌≡◌, ℕ, ◌<◌, ◌≤◌, true, false, Some, Ok, List, [], ◌∷◌, ◌++◌, map, slice_get}
use Rattle.machine_model.specs.MachineSpec.{MachineSpec}
use Rattle.raft_model.specs.Rafts.{Raft, is_up}
use Rattle.raft_model.specs.Worlds.{World, Restarts, happens}
use Rattle.group_model.specs.Worlds as group_worlds
use Rattle.recovery.specs.declared.unsettled.Unsettled.{Unsettled}
use Rattle.recovery.specs.declared.unsettled.Unsettled.TheVariants.{NoQuorum, Exhausted, NoMemory, Crashed}
use Rattle.recovery.specs.Runs.{is_up_in}
use Rattle.recovery.specs.Restarting.{downs}
use Rattle.recovery.specs.GroupRestarting.{restart_of}
use Rattle.recovery.specs.Inner.Drives.{Drive, Ever, WentOf, NothingYet}
use Rattle.recovery.specs.Inner.Kinds.{log_drive, group_drive}

-- server j is there and down
abbrev pub IsDown : {C : Type 0} → ℕ → World C → Type 0
IsDown {C} j w = (s : Raft C) × (slice_get w.servers j ≡ Some s) × (is_up s.mode ≡ false)

-- each server has the term and the log that it had
abbrev pub KeepsStored : {C : Type 0} → World C → World C → Type 0
KeepsStored {C} w v = (j : ℕ) (t : Raft C) → slice_get v.servers j ≡ Some t →
    (s : Raft C) × (slice_get w.servers j ≡ Some s) × (t.term ≡ s.term) × (t.log ≡ s.log)

-- how a server of what is driven restarts: the event, and what a moment becomes by it
pub record Restarting {V S C : Type 0} (d : Drive V S C) : Type 1 where
  pub own : ℕ → d.Own
  pub Back : d.Moment → ℕ → d.Moment → Type 0

module _ {V S C : Type 0} (m : MachineSpec S C) (d : Drive V S C) (a : Restarting d) where
  -- server j restarted, which is a restart of the log
  abbrev pub IsBack : ℕ → List d.Own → d.Moment → d.Moment → Type 0
  IsBack j taken w v = (taken ≡ a.own j ∷ []) × a.Back w j v × (happens m (d.log w) (Restarts j) ≡ Ok (d.log v))

  -- so it was if it was down
  pub data HasRestarted (j : ℕ) (w : d.Moment) : List d.Own → d.Moment → Type 0 where
    was_up : is_up_in (d.log w) j ≡ true → HasRestarted j w [] w
    was_down : {taken : List d.Own} {v : d.Moment} → is_up_in (d.log w) j ≡ false → IsBack j taken w v → HasRestarted j w taken v

  -- these restarted, one after the other
  pub data AreBack (w : d.Moment) : List ℕ → d.Moment → Type 0 where
    nobody : AreBack w [] w
    one_more : {back : List ℕ} {x : d.Moment} (j : ℕ) (v : d.Moment) → AreBack w back x → a.Back x j v → AreBack w (back ++ j ∷ []) v

  -- Those of the first k servers that were down restarted, in order: they are up, the others as they
  -- were, and each has what it had stored.
  pub record RestartedSoFar (k : ℕ) (taken : List d.Own) (w v : d.Moment) : Type 0 where
    pub back : AreBack w (downs k (d.log w)) v
    pub taken_are : taken ≡ map a.own (downs k (d.log w))
    pub up : (j : ℕ) → j < k → is_up_in (d.log v) j ≡ true
    pub others : (j : ℕ) → k ≤ j → is_up_in (d.log v) j ≡ is_up_in (d.log w) j
    pub stored : KeepsStored (d.log w) (d.log v)

  -- so far as to this one of n, which stays down
  pub record WokenUntil (n who : ℕ) (taken : List d.Own) (w v : d.Moment) : Type 0 where
    pub before : List ℕ
    pub later : List ℕ
    pub were_down : downs n (d.log w) ≡ before ++ who ∷ later
    pub back : AreBack w before v
    pub taken_are : taken ≡ map a.own before

  -- memory was wanting for the restart of one of those that were down
  abbrev pub RestartsFail : V → V → Unsettled → Type 0
  RestartsFail old new NoQuorum = ⊥
  RestartsFail old new Exhausted = ⊥
  RestartsFail old new NoMemory = WentOf d old new (λ taken w v. (who : ℕ) × WokenUntil (d.size old) who taken w v)
  RestartsFail old new (Crashed who) = WentOf d old new (λ taken w v. WokenUntil (d.size old) who taken w v)

module _ {V S C : Type 0} (d : Drive V S C) where
  -- memory was wanting for the restart of server j, and nothing happened
  abbrev pub IsLeftDown : ℕ → V → V → Unsettled → Type 0
  IsLeftDown j old new NoQuorum = ⊥
  IsLeftDown j old new Exhausted = ⊥
  IsLeftDown j old new NoMemory = WentOf d old new (λ taken w v. NothingYet d taken w v)
  IsLeftDown j old new (Crashed k) = (k ≡ j) × WentOf d old new (λ taken w v. NothingYet d taken w v)

  -- so it was, and server j is down
  abbrev pub RestartFails : ℕ → V → V → Unsettled → Type 0
  RestartFails j old new why = Ever d old (λ w. is_up_in w j ≡ false) × IsLeftDown j old new why

-- ---- the two kinds

abbrev pub log_restarting : {S C : Type 0} (m : MachineSpec S C) → Restarting (log_drive m)
log_restarting m = record {
  own = λ j. Restarts j;
  Back = λ w j v. happens m w (Restarts j) ≡ Ok v;
}

-- server j of a group restarted
pub record GroupBack (w : group_worlds.World) (j : ℕ) (v : group_worlds.World) : Type 0 where
  pub fits : group_worlds.IsEvent w (restart_of j)
  pub happens : group_worlds.happens w (restart_of j) ≡ Ok v

abbrev pub group_restarting : Restarting group_drive
group_restarting = record {
  own = λ j. restart_of j;
  Back = λ w j v. GroupBack w j v;
}
