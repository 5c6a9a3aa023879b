use Rattle.std.proofs.Common.{◌≡◌, ◌+◌, ◌≤◌, vec_len}
use Rattle.std.specs.Arc.{arc_value}
use Rattle.group_threads.specs.Running.{thread_count}
use Rattle.group_threads.proofs.running.start_all.Given as goal

abbrev pub invariant-loop-number : goal.invariant-loop-number
invariant-loop-number g l =
    (vec_len l.handles ≡ vec_len l.fn.handles + l.number) × (l.number ≤ l.number-end)
    × (l.number-end ≡ thread_count (arc_value l.fn.group).cells l.fn.workers)
