use Rattle.std.proofs.Common.{◌≡◌, ◌≤◌}
use Rattle.raft_model.specs.Quorums.{count}
use Rattle.raft_core.specs.Commits.{holds_index}
use Rattle.raft_core.proofs.commit.count_holders.Given as goal

abbrev pub invariant-loop-position : goal.invariant-loop-position
invariant-loop-position l = record {
  counted : l.held ≡ count (holds_index l.me l.matched l.index) l.position;
  bound : l.held ≤ l.position;
}
