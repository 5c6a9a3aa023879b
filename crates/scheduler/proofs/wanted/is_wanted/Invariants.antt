use Rattle.std.proofs.Common.{◌≡◌, drop}
use Rattle.std.specs.List.{list_any}
use Rattle.group_model.specs.Scheduling.{names_of_groups, is_of_name}
use Rattle.scheduler.proofs.wanted.is_wanted.Given as goal

abbrev pub invariant-loop-group : goal.invariant-loop-group
invariant-loop-group l =
    list_any (is_of_name l.row) (names_of_groups l.groups)
    ≡ list_any (is_of_name l.row) (names_of_groups (drop l.group-index l.groups))
