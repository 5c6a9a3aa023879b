use Rattle.std.proofs.Common.{◌≡◌, ◌++◌, filter, drop}
use Rattle.group_model.specs.Scheduling.{names_of_groups, is_missing}
use Rattle.scheduler.proofs.missing.missing_names.Given as goal

abbrev pub invariant-loop-group : goal.invariant-loop-group
invariant-loop-group l =
    let those = is_missing l.state l.job in
    l.names ++ filter those (names_of_groups (drop l.group-index l.groups)) ≡ filter those (names_of_groups l.groups)
