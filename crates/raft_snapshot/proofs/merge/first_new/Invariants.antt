use Rattle.std.proofs.Common.{◌≡◌, ◌+◌, ◌≤◌, length, drop}
use Rattle.raft_model.specs.Logs.{merge}
use Rattle.raft_snapshot.proofs.merge.first_new.Given as goal

abbrev pub invariant-loop-i : goal.invariant-loop-i
invariant-loop-i g l = record {
  within : l.prev + l.i ≤ length l.log.entries;
  same : merge l.commit l.prev l.log.entries l.entries ≡ merge l.commit (l.prev + l.i) l.log.entries (drop l.i l.entries);
}
