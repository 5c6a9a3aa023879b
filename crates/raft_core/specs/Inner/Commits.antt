-- Which entries of a leader's log are chosen, as a test.
use Rattle.std.specs.Prelude.{ℕ, Bool, ◌==◌, ◌&&◌, List}
use Rattle.machine_model.specs.declared.entry.Entry.{Entry}
use Rattle.raft_model.specs.Logs.{term_at}
use Rattle.raft_model.specs.Quorums.{is_quorum}
use Rattle.raft_core.specs.Commits.{holds_index}

-- the entry at index k of this log is of this term, and more than half of the n servers hold it
abbrev pub is_chosen_in : {C : Type 0} → ℕ → ℕ → ℕ → List (Entry C) → List ℕ → ℕ → Bool
is_chosen_in n me term log match k = (term_at log k == term) && is_quorum n (holds_index me match k)
