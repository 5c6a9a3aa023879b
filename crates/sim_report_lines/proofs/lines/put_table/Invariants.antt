use Rattle.std.proofs.Common.{◌≤◌, length}
use Rattle.sim_report_lines.proofs.lines.put_table.Given as goal

abbrev pub invariant-loop-line : goal.invariant-loop-line
invariant-loop-line l = length l.fn.lines.items ≤ length l.lines.items
