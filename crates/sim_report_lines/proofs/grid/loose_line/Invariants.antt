use Rattle.std.proofs.Common.{◌≡◌, drop, map, string_bytes}
use Rattle.std.specs.List.{fold}
use Rattle.sim_report_lines.specs.Grids.{loose_line, with_cell}
use Rattle.sim_report_lines.proofs.grid.loose_line.Given as goal

abbrev pub invariant-loop-cell : goal.invariant-loop-cell
invariant-loop-cell l =
    fold with_cell (string_bytes l.line) (map string_bytes (drop l.cell-index l.row)) ≡ loose_line (map string_bytes l.row)
