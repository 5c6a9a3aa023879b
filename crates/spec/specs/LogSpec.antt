-- The specification of a replicated log, of any machine: one log, of which each server has applied
-- some first entries.
use Rattle.std.specs.Prelude.{◌≡◌, ℕ, ◌≤◌, Option, Some, None, List, [], ◌∷◌, ◌++◌, length, map, replicate, slice_get, slice_set, if◌then◌else◌}
use Rattle.machine_model.specs.MachineSpec.{MachineSpec, IsCommandOf}
use Rattle.machine_model.specs.declared.entry.Entry.{Entry}
use Rattle.raft_model.specs.Logs.{last_term, state_after}
use Rattle.raft_model.specs.Rafts.{Raft, is_up}
use Rattle.raft_model.specs.Worlds.{World, first}
use Rattle.raft_model.specs.Chains.{Agree}
use Rattle.spec.specs.Spec.{ServerStep}

-- the log, and how many of its first entries each server has applied; none while it is down
pub record LogState (C : Type 0) : Type 0 where
  pub log : List (Entry C)
  pub last_applied : List (Option ℕ)

-- so many servers, before anything
abbrev pub init : {C : Type 0} → ℕ → LogState C
init servers = record { log = []; last_applied = replicate servers (Some 0) }

module _ {S C : Type 0} (m : MachineSpec S C) where
  -- what may be appended: an entry of the last term or a later one, whose command is within its
  -- limits and which the state after the whole log admits
  pub record MayFollow (log : List (Entry C)) (e : Entry C) : Type 0 where
    pub term : last_term log ≤ e.term
    pub command : IsCommandOf m e.command
    -- `admission` is why a command is refused: none, so it is admitted
    pub admitted : m.admission (state_after m log) e.command ≡ None

  -- one action
  pub data Action (g : LogState C) : LogState C → Type 0 where
    appends : (e : Entry C) → MayFollow g.log e → Action g (record g { log = g.log ++ e ∷ [] })
    at_server : (i : ℕ) (old new : Option ℕ) →
        slice_get g.last_applied i ≡ Some old → ServerStep (length g.log) old new →
        Action g (record g { last_applied = slice_set g.last_applied i new })

  -- any number of actions, one after the other
  pub data Actions (g : LogState C) : LogState C → Type 0 where
    none : Actions g g
    more : {h k : LogState C} → Actions g h → Action h k → Actions g k

-- ---- what a world shows of it

abbrev pub last_applied_by : {C : Type 0} → Raft C → Option ℕ
last_applied_by s = if is_up s.mode then Some s.commit else None

-- the same servers are up, and each has applied just so many first entries of the log
pub record Shows {C : Type 0} (w : World C) (g : LogState C) : Type 0 where
  pub servers : map last_applied_by w.servers ≡ g.last_applied
  pub entries : (i : ℕ) (s : Raft C) → slice_get w.servers i ≡ Some s → Agree s.commit s.log g.log

-- The worlds of a run, one by one, are shown by states of the specification: the first world by its
-- first state, and each next one by a state to which its actions lead. The last one shows g.
pub data Refines {S C : Type 0} (m : MachineSpec S C) (n : ℕ) : List (World C) → World C → LogState C → Type 0 where
  begins : Shows {C = C} (first n) (init n) → Refines m n [] (first n) (init n)
  moves : {past : List (World C)} {w : World C} {g : LogState C} (next : World C) (h : LogState C) →
      Refines m n past w g → Actions m g h → Shows next h → Refines m n (past ++ w ∷ []) next h

-- each run is one of the specification
abbrev pub RefinesLog : {S C : Type 0} → MachineSpec S C → ℕ → List (World C) → World C → Type 0
RefinesLog m n past w = (g : LogState _) × Refines m n past w g
