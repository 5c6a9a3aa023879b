use Rattle.std.proofs.Common.{◌≡◌, ◌∷◌, map, take}
use Rattle.sim_report_lines.specs.Grids.{cells_of}
use Rattle.sim_recovery.specs.Tables.{way_cells, way_heads}
use Rattle.sim_recovery.proofs.texts.grid_of.Given as goal

-- the way_cells of the rows so far stand behind the way_heads
abbrev pub invariant-loop-row : goal.invariant-loop-row
invariant-loop-row l = map cells_of l.grid.rows.items ≡ way_heads ∷ map way_cells (take l.row-index l.rows)
