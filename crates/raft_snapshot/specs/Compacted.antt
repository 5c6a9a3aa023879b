-- Servers as code sees them, by a base and a server with blank entries, and the servers of the
-- definitions that these stand for.
use Rattle.std.specs.Prelude.{◌≡◌, ℕ, ◌≤◌, ◌++◌, List, length, take, drop, if◌then◌else◌}
use Rattle.machine_model.specs.MachineSpec.{MachineSpec}
use Rattle.machine_model.specs.declared.entry.Entry.{Entry}
use Rattle.raft_model.specs.Logs.{term_at}
use Rattle.raft_model.specs.Messages.{Install}
use Rattle.raft_model.specs.Rafts.{Raft, RaftTurn, term_observed, compacted}
use Rattle.raft_model.specs.Steps.{receives}
use Rattle.raft_snapshot.specs.Bases.{Base, IsBaseOf, noop_prefix, state_from}
use Rattle.raft_snapshot.specs.Prefixes.{with_prefix, takes_snapshot}

-- The base is one of the shown server: it covers nothing that is not committed, its term is that
-- of the entry there, and the server's snapshot covers as much.
pub record IsCompacted {S C : Type 0} (base : Base S) (shown : Raft C) : Type 0 where
  pub covered : base.index ≤ shown.commit
  pub within : base.index ≤ length shown.log
  pub term : base.term ≡ term_at shown.log base.index
  pub count : shown.covered ≡ base.index

-- both stand for this server: it has, in place of the blank entries, some that the base covers
pub record IsCompactionOf {S C : Type 0} (m : MachineSpec S C) (base : Base S) (shown s : Raft C) : Type 0 where
  pub covered : List (Entry C)
  pub fits : IsBaseOf m base covered
  pub is : s ≡ with_prefix covered shown

-- the state that the shown server has applied
abbrev pub compacted_state : {S C : Type 0} → MachineSpec S C → Base S → Raft C → S
compacted_state m base shown = state_from m base (take shown.commit shown.log)

-- What the shown server does with a snapshot from server `from`, in a message of term `term`: of
-- the list that the message carries, index, term and state are all that is known.
abbrev pub turn_of : {S C : Type 0} → MachineSpec S C → ℕ → ℕ → Raft C → ℕ → ℕ → Base S → RaftTurn C
turn_of m n me shown from term snapshot =
    receives m.noop n me (term_observed term shown) from term (Install (noop_prefix m snapshot.index snapshot.term))

-- the base after it: the snapshot, where that is taken over
abbrev pub base_after : {S C : Type 0} → Base S → Raft C → ℕ → Base S → Base S
base_after base shown term snapshot =
    if takes_snapshot term snapshot.index (term_observed term shown) then snapshot else base

-- What is shown after it stands for where the definitions' server is after it, and the same was
-- sent.
pub record Received {S C : Type 0} (m : MachineSpec S C) (base : Base S) (turn theirs : RaftTurn C) : Type 0 where
  pub stands : IsCompactionOf m base turn.server theirs.server
  pub shown : IsCompacted base turn.server
  pub sent : turn.sent ≡ theirs.sent

-- the base after a Compact: all that is applied, with the state that is applied
abbrev pub compacted_base : {S C : Type 0} → MachineSpec S C → Base S → Raft C → Base S
compacted_base m base shown = record {
  index = shown.commit;
  term = term_at shown.log shown.commit;
  state = compacted_state m base shown;
}

-- and the server that is shown: what is applied is blank
abbrev pub compacted_further : {S C : Type 0} → MachineSpec S C → Raft C → Raft C
compacted_further m shown = record (compacted shown) {
  log = noop_prefix m shown.commit (term_at shown.log shown.commit) ++ drop shown.commit shown.log;
}
