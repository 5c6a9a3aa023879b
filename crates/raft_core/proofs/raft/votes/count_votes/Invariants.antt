use Rattle.std.proofs.Common.{◌≡◌, ◌≤◌}
use Rattle.raft_model.specs.Quorums.{count, marked}
use Rattle.raft_core.proofs.raft.votes.count_votes.Given as goal

abbrev pub invariant-loop-vote : goal.invariant-loop-vote
invariant-loop-vote l = record {
  counted : l.held ≡ count (marked l.votes) l.vote-index;
  bound : l.held ≤ l.vote-index;
}
