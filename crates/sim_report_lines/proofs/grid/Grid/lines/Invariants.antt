use Rattle.std.proofs.Common.{◌≡◌, length, map, string_bytes, take}
use Rattle.sim_report_lines.specs.Grids.{aligned_line, cells_of}
use Rattle.sim_report_lines.proofs.grid.Grid.lines.Given as goal

abbrev pub invariant-loop-row : goal.invariant-loop-row
invariant-loop-row l = record {
  count : length l.lines.items ≡ l.row-index;
  lines : map string_bytes l.lines.items ≡ map (aligned_line l.widths.items) (map cells_of (take l.row-index l.self.rows.items));
}
