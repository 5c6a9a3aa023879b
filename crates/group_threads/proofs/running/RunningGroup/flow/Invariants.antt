use Rattle.std.proofs.Common.{◌≡◌, ◌≤◌}
use Rattle.group_threads.proofs.running.RunningGroup.flow.Given as goal

abbrev pub invariant-loop : goal.invariant-loop
invariant-loop g l = (l.looked ≡ l.counter) × (l.counter ≤ l.looks)
