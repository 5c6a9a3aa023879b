use Rattle.std.proofs.Common.{◌≡◌, drop, map, string_bytes}
use Rattle.sim_report_lines.specs.Grids.{aligned_line, laid, with_columns}
use Rattle.sim_report_lines.proofs.grid.line_of.Given as goal

abbrev pub invariant-loop-place : goal.invariant-loop-place
invariant-loop-place l =
    (with_columns (laid (string_bytes l.line) l.owed) (drop l.place (map string_bytes l.row)) (drop l.place l.widths)).line
    ≡ aligned_line l.widths (map string_bytes l.row)
