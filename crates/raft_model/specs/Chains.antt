-- The one list of a run. (Raft, Figure 3: log matching, leader completeness and state machine
-- safety.)
use Rattle.std.specs.Prelude.{◌≡◌, ℕ, ◌≤◌, ◌⊎◌, true, Some, List, [], length, take, slice_get}
use Rattle.machine_model.specs.declared.entry.Entry.{Entry}
use Rattle.raft_model.specs.Rafts.{Raft, is_up}
use Rattle.raft_model.specs.Worlds.{World, moment, Leads, OneLeader}

-- both have k entries, and the same ones
pub record Agree {C : Type 0} (k : ℕ) (A B : List (Entry C)) : Type 0 where
  pub left : k ≤ length A
  pub right : k ≤ length B
  pub same : take k A ≡ take k B

-- server i at moment k of a run
pub record At {C : Type 0} (past : List (World C)) (w : World C) (k i : ℕ) (s : Raft C) : Type 0 where
  pub world : World C
  pub world_is : moment past w k ≡ Some world
  pub here : slice_get world.servers i ≡ Some s

-- a server that was up had this commit index at some moment
pub record WasCommitted {C : Type 0} (past : List (World C)) (w : World C) (index : ℕ) : Type 0 where
  pub moment : ℕ
  pub who : ℕ
  pub server : Raft C
  pub at : At past w moment who server
  pub up : is_up server.mode ≡ true
  pub commit : server.commit ≡ index

-- At each moment the first `commit` entries of each server's log are the first of `list`, which is
-- no longer than what some server had committed while it was up. No two servers ever lead one term,
-- and whoever leads a term has what a server in a term up to it had applied by then.
pub record Chain {C : Type 0} (past : List (World C)) (w : World C) (list : List (Entry C)) : Type 0 where
  pub agrees : (k i : ℕ) (s : Raft C) → At past w k i s → Agree s.commit s.log list
  pub longest : (list ≡ []) ⊎ WasCommitted past w (length list)
  pub one_leader : OneLeader past w
  pub complete : (k l i j t : ℕ) (s : Raft C) (x : World C) → k ≤ l → At past w k i s → s.term ≤ t → moment past w l ≡ Some x → (leads : Leads x j t) →
      Agree s.commit list leads.server.log
