-- The first entries of a log, known by their number, the term of the last one and the state after
-- them. (Raft, extended version 2014, section 7.)
use Rattle.std.specs.Prelude.{◌≡◌, ℕ, List, length, drop, replicate}
use Rattle.machine_model.specs.MachineSpec.{MachineSpec}
use Rattle.machine_model.specs.After.{after_from}
use Rattle.machine_model.specs.declared.entry.Entry.{Entry}
use Rattle.raft_model.specs.Logs.{last_term, commands, state_after}

-- what is known of the entries that a snapshot covers
pub record Base (S : Type 0) : Type 0 where
  -- how many they are, which is the index of the last one
  pub index : ℕ
  -- the last one's term; 0 where there is none
  pub term : ℕ
  -- the machine's state after them
  pub state : S

-- the base is one of these entries
pub record IsBaseOf {S C : Type 0} (m : MachineSpec S C) (base : Base S) (covered : List (Entry C)) : Type 0 where
  pub index : length covered ≡ base.index
  pub term : last_term covered ≡ base.term
  pub state : state_after m covered ≡ base.state

-- What every snapshot keeps: its state has seen as many commands as it covers entries, and where it
-- covers none, it has no term, and its state is the first one.
pub record IsSnapshot {S C : Type 0} (m : MachineSpec S C) (base : Base S) : Type 0 where
  pub count : m.count base.state ≡ base.index
  pub none : base.index ≡ 0 → base.term ≡ 0
  pub first : base.index ≡ 0 → base.state ≡ m.empty

-- Entries that say nothing, as many as a base covers, each with the term of its last one. They
-- stand for entries that are not known.
abbrev pub noop_prefix : {S C : Type 0} → MachineSpec S C → ℕ → ℕ → List (Entry C)
noop_prefix m index term = replicate index (record { term = term; command = m.noop })

-- the state after a log of which a base covers the first entries
abbrev pub state_from : {S C : Type 0} → MachineSpec S C → Base S → List (Entry C) → S
state_from m base log = after_from m base.state (commands (drop base.index log))
