use Rattle.std.proofs.Common.{◌≡◌, ◌≤◌, length}
use Rattle.raft_model.specs.Rafts.{greatest}
use Rattle.raft_core.specs.Inner.Commits.{is_chosen_in}
use Rattle.raft_core.proofs.commit.risen.Given as goal

abbrev pub invariant-loop-index : goal.invariant-loop-index
invariant-loop-index g l = record {
  within : l.index ≤ length l.log.entries;
  same : let test = is_chosen_in (length l.matched) l.me l.term l.log.entries l.matched in greatest test l.commit (length l.log.entries) ≡ greatest test l.commit l.index;
}

abbrev pub decreases-loop-index : goal.decreases-loop-index
decreases-loop-index g l = l.index
