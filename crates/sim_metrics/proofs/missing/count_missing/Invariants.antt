use Rattle.std.proofs.Common.{◌≡◌, ◌≤◌, ◌+◌, ◌-◌, filter, length}
use Rattle.group_model.specs.Scheduling.{names_from, is_missing}
use Rattle.sim_metrics.proofs.missing.count_missing.Given as goal

abbrev pub invariant-loop-number : goal.invariant-loop-number
invariant-loop-number l =
    let those = is_missing l.state l.job in
    (l.count ≤ l.number)
    × (l.count + length (filter those (names_from l.group l.number (l.group.count - l.number)))
    ≡ length (filter those (names_from l.group 0 l.group.count)))
