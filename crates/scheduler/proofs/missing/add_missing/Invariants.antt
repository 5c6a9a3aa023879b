use Rattle.std.proofs.Common.{◌≡◌, ◌-◌, ◌++◌, filter}
use Rattle.group_model.specs.Scheduling.{names_from, is_missing}
use Rattle.scheduler.proofs.missing.add_missing.Given as goal

abbrev pub invariant-loop-number : goal.invariant-loop-number
invariant-loop-number l =
    let those = is_missing l.state l.job in
    l.names ++ filter those (names_from l.group l.number (l.group.count - l.number))
    ≡ l.fn.names ++ filter those (names_from l.group 0 l.group.count)
