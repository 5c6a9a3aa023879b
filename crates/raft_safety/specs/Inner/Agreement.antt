-- Logs that agree up to an index.
use Rattle.std.specs.Prelude.{ℕ, ◌≤◌, ◌≡◌, ◌⊎◌, List, length, take}
use Rattle.machine_model.specs.declared.entry.Entry.{Entry}
use Rattle.raft_model.specs.Logs.{term_at}
use Rattle.raft_model.specs.Chains.{Agree}

-- each entry brings with it the first entries of the leader of its term
unfoldable pub Rooted : {C : Type 0} → (ℕ → List (Entry C)) → List (Entry C) → Type 0
Rooted ledger log = (p : ℕ) → 1 ≤ p → p ≤ length log → Agree p log (ledger (term_at log p))

-- from the leader's ledger L: the log stays, or becomes the first m of L
pub record Adopted {C : Type 0} (L log new : List (Entry C)) (m : ℕ) : Type 0 where
  pub reached : Agree m L new
  pub origin : (new ≡ log) ⊎ (new ≡ take m L)
  pub kept : (k : ℕ) → Agree k L log → Agree k L new
