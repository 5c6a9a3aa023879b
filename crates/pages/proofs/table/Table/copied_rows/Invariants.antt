use Rattle.std.proofs.Common.{◌≡◌, ◌++◌, ◌-◌, length, drop}
use Rattle.pages.proofs.table.Table.copied_rows.Given as goal

abbrev pub invariant-loop-copies : goal.invariant-loop-copies
invariant-loop-copies g l = l.copies.items ++ drop (length l.copies.items) l.self ≡ l.self

abbrev pub decreases-loop-copies : goal.decreases-loop-copies
decreases-loop-copies g l = l.count - length l.copies.items
