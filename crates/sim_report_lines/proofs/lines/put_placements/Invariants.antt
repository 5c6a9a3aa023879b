use Rattle.std.proofs.Common.{◌≤◌, length}
use Rattle.sim_report_lines.proofs.lines.put_placements.Given as goal

abbrev pub invariant-loop-evaluation : goal.invariant-loop-evaluation
invariant-loop-evaluation l = length l.fn.lines.items ≤ length l.lines.items

abbrev pub invariant-loop-group : goal.invariant-loop-group
invariant-loop-group l = length l.fn.lines.items ≤ length l.lines.items
