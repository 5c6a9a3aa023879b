use Rattle.std.proofs.Common.{◌≡◌, ◌++◌, take}
use Rattle.pages.proofs.keys.JobCopiedRow.append_copies.Given as goal

abbrev pub invariant-loop-row : goal.invariant-loop-row
invariant-loop-row l = l.out.items ≡ l.fn.out.items ++ take l.row-index l.rows
