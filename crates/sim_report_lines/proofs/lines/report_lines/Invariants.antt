use Rattle.std.proofs.Common.{◌<◌, length}
use Rattle.sim_report_lines.proofs.lines.report_lines.Given as goal

abbrev pub invariant-loop-desk : goal.invariant-loop-desk
invariant-loop-desk l = 0 < length l.lines.items

abbrev pub invariant-loop-state : goal.invariant-loop-state
invariant-loop-state l = 0 < length l.lines.items
