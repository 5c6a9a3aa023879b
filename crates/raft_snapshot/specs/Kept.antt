-- What a contract sees of a log whose first entries a snapshot covers, and which whole lists that
-- may be.
use Rattle.std.specs.Prelude.{◌≡◌, ◌+◌, ◌<◌, ◌^◌, ◌++◌, List, length}
use Rattle.machine_model.specs.MachineSpec.{MachineSpec}
use Rattle.machine_model.specs.declared.entry.Entry.{Entry}
use Rattle.raft_snapshot.specs.Bases.{Base, IsBaseOf, IsSnapshot, noop_prefix}
use Rattle.raft_snapshot.specs.Prefixes.{log_with_prefix}

-- its base, and all its entries, of which those that the base covers are blank
pub record Kept (S C : Type 0) : Type 0 where
  pub base : Base S
  pub entries : List (Entry C)

-- a base with the entries behind it
abbrev pub kept : {S C : Type 0} → MachineSpec S C → Base S → List (Entry C) → Kept S C
kept m base tail = record { base = base; entries = noop_prefix m base.index base.term ++ tail }

-- what a log's type keeps
pub record IsKept {S C : Type 0} (m : MachineSpec S C) (base : Base S) (tail : List (Entry C)) : Type 0 where
  pub snapshot : IsSnapshot m base
  pub short : base.index + length tail < 2 ^ 40

-- The log is this whole list: its base is one of the list's first entries, and what is behind the
-- base is the rest.
pub record IsLogOf {S C : Type 0} (m : MachineSpec S C) (log : Kept S C) (list : List (Entry C)) : Type 0 where
  pub covered : List (Entry C)
  pub fits : IsBaseOf m log.base covered
  pub is : list ≡ log_with_prefix covered log.entries
