use Rattle.std.proofs.Common.{◌≡◌, take}
use Rattle.raft_snapshot.proofs.log.copies.entries_again.Given as goal

abbrev pub invariant-loop-entry : goal.invariant-loop-entry
invariant-loop-entry g l = l.again.items ≡ take l.entry-index l.entries
