use Rattle.std.proofs.Common.{take}
use Rattle.std.specs.List.{AllByRecursion}
use Rattle.rows.proofs.list_rules.all_ranges.Given as goal

abbrev pub invariant-loop-item : goal.invariant-loop-item
invariant-loop-item g l = AllByRecursion g.T.Ranged.Fits (take l.item-index l.items)
