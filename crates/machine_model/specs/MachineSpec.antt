-- What a replicated machine is: its states, its commands and what they do, all as functions of
-- values; and the law that each such machine keeps.
use Rattle.std.specs.Prelude.{◌≡◌, ℕ, ◌+◌, ◌^◌, ◌<◌, ◌≤◌, Option, Some, None}
use Rattle.rows.specs.Versions.{newest}
use Rattle.rows.specs.declared.refusal.Refusal.{Refusal}
use Rattle.rows.specs.declared.refusal.Refusal.TheVariants as refusals
use Rattle.fields_model.specs.Format.{Format, Lawful}

-- the meaning of a machine with states S and commands C
pub record MachineSpec (S C : Type 0) : Type 1 where
  -- the texts of states and of commands in each version; what is written is the newest, and the
  -- states and commands that there are fit it
  pub states : ℕ → Format S
  pub commands : ℕ → Format C
  -- what the machine promises of a state
  pub safe : S → Type 0
  -- the state before the first command
  pub empty : S
  -- the command that a new leader appends
  pub noop : C
  -- how many commands were applied
  pub count : S → ℕ
  -- the state after a command, admitted or not
  pub applied : S → C → S
  -- why a state refuses a command, if it does
  pub admission : S → C → Option Refusal

-- a state of the machine, and a command of it: those that have a text of the newest version
abbrev pub IsStateOf : {S C : Type 0} → MachineSpec S C → S → Type 0
IsStateOf m s = (m.states newest).Fits s

abbrev pub IsCommandOf : {S C : Type 0} → MachineSpec S C → C → Type 0
IsCommandOf m c = (m.commands newest).Fits c

-- A refusal that a machine may give. Want of memory, not leading, services not open, terms or
-- places used up, bytes that are no text, and a server that is down are for others to answer: a
-- caller that gets one of them knows that no machine gave it.
abbrev pub IsMachineRefusal : Refusal → Type 0
IsMachineRefusal refusals.NoMemory = ⊥
IsMachineRefusal (refusals.NotLeader leader) = ⊥
IsMachineRefusal refusals.NotOpen = ⊥
IsMachineRefusal refusals.Exhausted = ⊥
IsMachineRefusal (refusals.Frame offset) = ⊥
IsMachineRefusal refusals.Down = ⊥
IsMachineRefusal _ = Unit {0}

-- The law of machines. That a command's effect and admission depend on the state and the command
-- alone is in the meaning, where they are functions of these.
pub record LawfulMachine {S C : Type 0} (m : MachineSpec S C) : Type 0 where
  -- in each version a state's text reads as that state and as no other, and so does a command's;
  -- neither begins another
  pub states_lawful : (version : ℕ) → Lawful (m.states version)
  pub commands_lawful : (version : ℕ) → Lawful (m.commands version)
  -- the texts are short enough for messages, in bytes
  pub states_short : (version : ℕ) → (m.states version).most ≤ 16000000
  pub commands_short : (version : ℕ) → (m.commands version).most ≤ 65536
  -- what an older version spells is a state and a command of the newest
  pub states_stay : (version : ℕ) (s : S) → (m.states version).Fits s → IsStateOf m s
  pub commands_stay : (version : ℕ) (c : C) → (m.commands version).Fits c → IsCommandOf m c
  -- the empty state is a safe state of the machine, with no command applied
  pub empty_fits : IsStateOf m m.empty
  pub empty_is_safe : m.safe m.empty
  pub empty_has_count : m.count m.empty ≡ 0
  -- no state refuses the no-op
  pub noop_fits : IsCommandOf m m.noop
  pub noop_is_admitted : (s : S) → IsStateOf m s → m.admission s m.noop ≡ None
  -- a count is one that a log has places for
  pub count_is_below : (s : S) → IsStateOf m s → m.count s < 2 ^ 40
  -- each command leads from a state of the machine to one, also a command that was not admitted
  pub applied_fits : (s : S) (c : C) → IsStateOf m s → IsCommandOf m c → m.count s + 1 < 2 ^ 40 → IsStateOf m (m.applied s c)
  -- and adds one to the count
  pub applied_has_count : (s : S) (c : C) → m.count (m.applied s c) ≡ m.count s + 1
  -- a command that a safe state admits leads to a safe state
  pub admitted_is_safe : (s : S) (c : C) → IsStateOf m s → IsCommandOf m c → m.safe s → m.admission s c ≡ None → m.safe (m.applied s c)
  -- what a state refuses a command with is the machine's own refusal
  pub refusal_is_its_own : (s : S) (c : C) (r : Refusal) → m.admission s c ≡ Some r → IsMachineRefusal r
