use Rattle.std.proofs.Common.{◌≡◌, ◌≢◌, ◌⊎◌, ℕ, ◌<◌, ◌≤◌}
use Rattle.raft_model.specs.Quorums.{index_at}
use Rattle.raft_core.proofs.commit.next_lower.Given as goal

abbrev pub invariant-loop-position : goal.invariant-loop-position
invariant-loop-position l = record {
  below : l.low < l.index;
  others : (j : ℕ) → j < l.position → j ≢ l.me → index_at l.matched j < l.index → index_at l.matched j ≤ l.low;
  one : (l.low ≡ 0) ⊎ ((j : ℕ) × (j < l.position) × (j ≢ l.me) × (index_at l.matched j ≡ l.low));
}
