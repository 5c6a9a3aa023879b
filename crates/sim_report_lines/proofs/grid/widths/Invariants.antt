use Rattle.std.proofs.Common.{◌≡◌, map, take}
use Rattle.sim_report_lines.specs.Grids.{cells_of, column_widths}
use Rattle.sim_report_lines.proofs.grid.widths.Given as goal

abbrev pub invariant-loop-row : goal.invariant-loop-row
invariant-loop-row l = l.widths.items ≡ column_widths (map cells_of (take l.row-index l.rows))
