use Rattle.std.proofs.Common.{◌≡◌, ◌&&◌, ◌||◌, drop}
use Rattle.std.specs.List.{list_any}
use Rattle.rows.specs.declared.allocation.Allocation.{Allocation}
use Rattle.group_model.specs.Drains.{same_group}
use Rattle.drain.specs.Inner.Groups.{is_met}
use Rattle.drain.proofs.marked.add_marked.Given as goal

abbrev pub invariant-loop-row : goal.invariant-loop-row
invariant-loop-row l =
    (a : Allocation) → (is_met l.groups a || list_any (λ (b : Allocation). b.migrate && same_group a b) (drop l.row-index l.rows))
    ≡ (is_met l.initial.groups a || list_any (λ (b : Allocation). b.migrate && same_group a b) l.rows)
