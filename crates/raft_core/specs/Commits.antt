-- How far a leader's commit index rises. (Raft, extended version 2014, section 5.3, and section
-- 5.4.2.)
use Rattle.std.specs.Prelude.{◌≡◌, ℕ, ◌≤◌, ◌<◌, ◌⊎◌, true, Bool, ◌==◌, ◌||◌, nat_le, List, length}
use Rattle.raft_model.specs.Logs.{term_at}
use Rattle.raft_model.specs.Quorums.{Quorum, index_at}
use Rattle.raft_model.specs.Rafts.{Raft}

-- server j holds index k: the leader `me` all of its log, another what it is known to hold
abbrev pub holds_index : ℕ → List ℕ → ℕ → ℕ → Bool
holds_index me match k j = (j == me) || nat_le k (index_at match j)

-- p is the greatest of `low` and the numbers above it, up to `high`, that pass the test
pub record IsGreatest (test : ℕ → Bool) (low high p : ℕ) : Type 0 where
  pub keeps : low ≤ p
  pub above : (q : ℕ) → low < q → q ≤ high → test q ≡ true → q ≤ p
  pub one : (p ≡ low) ⊎ ((p ≤ high) × (test p ≡ true))

-- the leader's entry at index k is of its own term, and a quorum holds it
pub record IsChosen {C : Type 0} (n me : ℕ) (s : Raft C) (match : List ℕ) (k : ℕ) : Type 0 where
  pub there : k ≤ length s.log
  pub term : term_at s.log k ≡ s.term
  pub held : Quorum n (holds_index me match k)

-- p is the leader's commit index after a rise: no such entry stands above it, and it rose to none
-- but such a one
pub record IsRisen {C : Type 0} (n me : ℕ) (s : Raft C) (match : List ℕ) (p : ℕ) : Type 0 where
  pub keeps : s.commit ≤ p
  pub above : (q : ℕ) → IsChosen n me s match q → q ≤ p
  pub one : (p ≡ s.commit) ⊎ IsChosen n me s match p
