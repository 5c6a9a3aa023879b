use Rattle.std.proofs.Common.{◌≡◌, ◌++◌, drop}
use Rattle.eval_broker.proofs.reserved_tree.tree_of.Given as goal

abbrev pub invariant-loop-row : goal.invariant-loop-row
invariant-loop-row g l = l.tree.rows ++ drop l.row-index l.rows ≡ l.rows
