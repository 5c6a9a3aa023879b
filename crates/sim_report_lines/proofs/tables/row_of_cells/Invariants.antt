use Rattle.std.proofs.Common.{◌≡◌, length}
use Rattle.sim_report_lines.proofs.tables.row_of_cells.Given as goal

abbrev pub invariant-loop-cell : goal.invariant-loop-cell
invariant-loop-cell l = length l.row.items ≡ l.cell-index
