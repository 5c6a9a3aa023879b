use Rattle.std.proofs.Common.{◌≡◌, ◌+◌, ◌≤◌, [], length, drop}
use Rattle.group_model.specs.Expiry.{heartbeat_counts_over}
use Rattle.expiry.proofs.expiry.counts_over.Given as goal

abbrev pub invariant-loop-at : goal.invariant-loop-at
invariant-loop-at l = record {
  within : l.at ≤ length l.nodes;
  counts : l.counts.rows ≡ heartbeat_counts_over (drop l.at l.nodes) [];
  few : length l.counts.rows + l.at ≤ length l.nodes;
  capacity : length l.nodes ≤ l.counts.capacity;
}

abbrev pub decreases-loop-at : goal.decreases-loop-at
decreases-loop-at l = l.at
