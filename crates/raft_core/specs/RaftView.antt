-- What a contract sees of a server, and what its type keeps.
use Rattle.std.specs.Prelude.{◌≡◌, ℕ, ◌+◌, ◌^◌, ◌<◌, ◌≤◌, Bool, ◌&&◌, true, Option, Some, None, List, length, take, slice_index, is_some, IfSome}
use Rattle.machine_model.specs.MachineSpec.{MachineSpec}
use Rattle.machine_model.specs.declared.entry.Entry.{Entry}
use Rattle.raft_model.specs.Rafts.{Raft, Mode, is_leader, crashed}
use Rattle.raft_model.specs.Rafts.{Follower as FollowerMode, Candidate as CandidateMode, Leader as LeaderMode}
use Rattle.raft_snapshot.specs.Bases.{Base, state_from}
use Rattle.raft_core.specs.declared.role.Role.{Role}
use Rattle.raft_core.specs.declared.role.Role.TheVariants.{Follower, Candidate, Leader}

-- Its place among the servers, how many they are, what is known of the entries that its snapshot
-- covers, the server that it is, these entries being blank, and whether it holds a leader's machine
-- after its whole log.
pub record RaftView (S C : Type 0) : Type 0 where
  pub me : ℕ
  pub size : ℕ
  pub base : Base S
  pub server : Raft C
  pub projected : Bool

-- two values that are the server of this number in a group of this size
abbrev pub SameNumber : {S C : Type 0} → RaftView S C → RaftView S C → Type 0
SameNumber old new = (new.me ≡ old.me) × (new.size ≡ old.size)

-- two values that are one server; one may hold the machine after the whole log, and the other not
pub record SameRaft {S C : Type 0} (old new : RaftView S C) : Type 0 where
  pub me : new.me ≡ old.me
  pub size : new.size ≡ old.size
  pub base : new.base ≡ old.base
  pub server : new.server ≡ old.server

-- what a crash leaves of a value: what is stored is as it was
abbrev pub IsCrashOf : {S C : Type 0} → RaftView S C → RaftView S C → Type 0
IsCrashOf old new = (new.server ≡ crashed old.server) × (new.base ≡ old.base)

-- one that leads on keeps the machine after its whole log
abbrev pub KeepsProjected : {S C : Type 0} → RaftView S C → RaftView S C → Type 0
KeepsProjected old new = old.projected ≡ true → is_leader new.server.mode ≡ true → new.projected ≡ true

-- a value with a second machine, or without: only a leader's counts
abbrev pub with_projected : {S C : Type 0} → ℕ → ℕ → Base S → Option S → Raft C → RaftView S C
with_projected me size base projected s = record {
  me = me;
  size = size;
  base = base;
  server = s;
  projected = is_some projected && is_leader s.mode;
}

abbrev pub mode_of : Role → List Bool → List ℕ → List ℕ → Mode
mode_of Follower votes next matched = FollowerMode
mode_of Candidate votes next matched = CandidateMode votes
mode_of Leader votes next matched = LeaderMode next matched

-- a server is up while it has a machine
abbrev pub while_up : {S C : Type 0} → Option S → Raft C → Raft C
while_up None s = crashed s
while_up (Some machine) s = s

-- While it is up, its machine is in the state after the committed entries.
pub record IsUpToCommit {S C : Type 0} (m : MachineSpec S C) (base : Base S) (log : List (Entry C)) (commit : ℕ) (matched : List ℕ) (machine : S) : Type 0 where
  pub covered : base.index ≤ commit
  pub committed : commit ≤ length log
  pub state : machine ≡ state_from m base (take commit log)
  pub levels : (j : ℕ) → slice_index matched j < 2 ^ 40

-- A second machine is there only while it is up and leads, and is in the state after the whole log.
pub record IsProjected {S C : Type 0} (m : MachineSpec S C) (base : Base S) (log : List (Entry C)) (role : Role) (machine : Option S) (projected : S) : Type 0 where
  pub up : is_some machine ≡ true
  pub leads : role ≡ Leader
  pub state : projected ≡ state_from m base log

-- a candidate has an index left for the no-op of its election
abbrev pub HasElectionIndex : {C : Type 0} → Role → List (Entry C) → Type 0
HasElectionIndex Follower log = Unit {0}
HasElectionIndex Candidate log = length log + 1 < 2 ^ 40
HasElectionIndex Leader log = Unit {0}

-- who stands or leads does so in a term from 1 on
abbrev pub HasTerm : Role → ℕ → Type 0
HasTerm Follower term = Unit {0}
HasTerm Candidate term = 1 ≤ term
HasTerm Leader term = 1 ≤ term

-- Each of the lists by server number has an item for each server. A next index is one that a log
-- may grow to.
pub record RaftInvariant {S C : Type 0} (m : MachineSpec S C) (me size term : ℕ) (base : Base S) (log : List (Entry C)) (role : Role) (commit : ℕ) (votes : List Bool) (next matched : List ℕ) (machine projected : Option S) : Type 0 where
  pub number : me < size
  pub group : size ≤ 5
  pub elected : HasTerm role term
  pub index_left : HasElectionIndex role log
  pub votes_each : length votes ≡ size
  pub next_each : length next ≡ size
  pub next_least : (j : ℕ) → j < size → 1 ≤ slice_index next j
  pub next_most : (j : ℕ) → slice_index next j ≤ 2 ^ 40
  pub matched_each : length matched ≡ size
  pub live : IfSome machine (IsUpToCommit m base log commit matched)
  pub second : IfSome projected (IsProjected m base log role machine)
