use Rattle.std.proofs.Common.{◌≡◌, map, string_bytes, take}
use Rattle.sim_report_lines.specs.Grids.{widened}
use Rattle.sim_report_lines.proofs.grid.widen_row.Given as goal

abbrev pub invariant-loop-column : goal.invariant-loop-column
invariant-loop-column l = l.widths.items ≡ widened l.fn.widths.items (take l.column (map string_bytes l.row))
