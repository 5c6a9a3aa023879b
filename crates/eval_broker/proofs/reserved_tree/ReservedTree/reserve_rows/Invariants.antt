use Rattle.std.proofs.Common.{◌≡◌, ◌≤◌, ◌-◌}
use Rattle.eval_broker.proofs.reserved_tree.ReservedTree.reserve_rows.Given as goal

abbrev pub invariant-loop-any : goal.invariant-loop-any
invariant-loop-any g l = record { rows : l.self.rows ≡ l.initial.self.rows; capacity : l.initial.self.capacity ≤ l.self.capacity }

abbrev pub decreases-loop-any : goal.decreases-loop-any
decreases-loop-any g l = l.count - l.self.capacity
