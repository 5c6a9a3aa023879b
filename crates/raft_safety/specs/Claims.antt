-- What the theorems say of a run. Server numbers and moments begin at 0, indexes of entries at 1.
use Rattle.std.specs.Prelude.{◌≡◌, ◌≢◌, ℕ, suc, ◌≤◌, ◌<◌, ◌⊎◌, Bool, true, ◌==◌, ◌||◌, nat_le, Some, Ok, List, [], ◌∷◌, ◌++◌, length, take, slice_get}
use Rattle.machine_model.specs.MachineSpec.{MachineSpec}
use Rattle.machine_model.specs.declared.entry.Entry.{Entry}
use Rattle.raft_model.specs.Logs.{MAX, term_at}
use Rattle.raft_model.specs.Quorums.{Quorum, index_at}
use Rattle.raft_model.specs.Messages.{Message}
use Rattle.raft_model.specs.Rafts.{Raft, Candidate, Leader, is_up, is_leader}
use Rattle.raft_model.specs.Worlds.{World, Event, Proposes, Run, IsEvent, happens}
use Rattle.raft_model.specs.Chains.{Agree, At, WasCommitted}

-- P holds of each run, of any number of servers and any length: n servers, the events, the worlds
-- before the last one, and that one
abbrev pub EachRun : {S C : Type 0} → MachineSpec S C → (ℕ → List (Event C) → List (World C) → World C → Type 0) → Type 0
EachRun {S} {C} m P = (n : ℕ) (events : List (Event C)) (past : List (World C)) (w : World C) → Run m n events past w → P n events past w

-- The event between a moment and the next one, at which the worlds were these.
pub record Happened {S C : Type 0} (m : MachineSpec S C) (events : List (Event C)) (k : ℕ) (before after : World C) : Type 0 where
  pub event : Event C
  pub at : slice_get events k ≡ Some event
  pub is : IsEvent m event
  pub happens : happens m before event ≡ Ok after

-- Two logs, at one moment or at two, that hold an entry of one index and term are the same up to
-- it. (Raft, Figure 3, log matching.)
abbrev pub LogMatching : {C : Type 0} → List (World C) → World C → Type 0
LogMatching {C} past w = (k l i j p : ℕ) (s t : Raft C) → At past w k i s → At past w l j t → 1 ≤ p → p ≤ length s.log → p ≤ length t.log →
    term_at s.log p ≡ term_at t.log p → Agree p s.log t.log

-- c is the greatest commit index that a server had at some moment while it was up
pub record IsGreatestCommit {C : Type 0} (past : List (World C)) (w : World C) (c : ℕ) : Type 0 where
  pub bound : (k i : ℕ) (s : Raft C) → At past w k i s → is_up s.mode ≡ true → s.commit ≤ c
  pub reached : (c ≡ 0) ⊎ WasCommitted past w c

-- How a leader's log grew by one entry: it took a proposal; or it was a candidate and wins now, and
-- the entry is its no-op.
pub data Grew {S C : Type 0} (m : MachineSpec S C) (i : ℕ) (event : Event C) (before after : Raft C) : Type 0 where
  proposed : (command : C) → is_leader before.mode ≡ true → event ≡ Proposes i command →
      after.log ≡ before.log ++ record { term = before.term; command = command } ∷ [] → Grew m i event before after
  elected : (votes : List Bool) → before.mode ≡ Candidate votes →
      after.log ≡ before.log ++ record { term = before.term; command = m.noop } ∷ [] → Grew m i event before after

-- Where the entry that follows the first p of a list comes from: at some moment server `who`, of
-- the entry's term, has just these p entries in its log, and with the next event it leads that term
-- and has this entry besides.
pub record Origin {S C : Type 0} (m : MachineSpec S C) (events : List (Event C)) (past : List (World C)) (w : World C) (list : List (Entry C)) (p : ℕ) : Type 0 where
  pub moment : ℕ
  pub who : ℕ
  pub before : Raft C
  pub after : Raft C
  pub event : Event C
  pub before_at : At past w moment who before
  pub event_at : slice_get events moment ≡ Some event
  pub after_at : At past w (suc moment) who after
  pub had : before.log ≡ take p list
  pub has : after.log ≡ take (suc p) list
  pub before_term : before.term ≡ term_at list (suc p)
  pub after_term : after.term ≡ term_at list (suc p)
  pub leads : is_leader after.mode ≡ true
  pub grew : Grew m who event before after

-- server i is up at each moment from k to l
abbrev pub UpFromTo : {C : Type 0} → List (World C) → World C → ℕ → ℕ → ℕ → Type 0
UpFromTo {C} past w i k l = (j : ℕ) (s : Raft C) → k ≤ j → j ≤ l → At past w j i s → is_up s.mode ≡ true

-- what a server has stored stays
pub record SameStored {C : Type 0} (s t : Raft C) : Type 0 where
  pub term : t.term ≡ s.term
  pub vote : t.vote ≡ s.vote
  pub log : t.log ≡ s.log
  pub covered : t.covered ≡ s.covered

-- the numbers of a server
pub record Limits {C : Type 0} (s : Raft C) : Type 0 where
  pub term : s.term ≤ MAX
  pub index : length s.log ≤ MAX
  pub covered : s.covered ≤ s.commit
  pub commit : s.commit ≤ length s.log
  pub terms : (p : ℕ) → 1 ≤ p → p ≤ length s.log → term_at s.log p ≤ s.term

-- a message from one server of the group to another
pub record IsAmongMembers {C : Type 0} (n : ℕ) (x : Message C) : Type 0 where
  pub from : x.from < n
  pub to : x.to < n
  pub apart : x.from ≢ x.to
  pub term : x.term ≤ MAX

-- Commit has risen as far as its rule lets it: no index above it has an entry of the leader's term
-- that a quorum is known to hold.
abbrev pub HasRisen : {C : Type 0} → ℕ → ℕ → Raft C → Type 0
HasRisen n i s = (next match : List ℕ) (k : ℕ) → s.mode ≡ Leader next match → s.commit < k → k ≤ length s.log → term_at s.log k ≡ s.term →
    Quorum n (λ j. (j == i) || nat_le k (index_at match j)) → ⊥
