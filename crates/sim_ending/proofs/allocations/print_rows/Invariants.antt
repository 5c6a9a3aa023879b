use Rattle.std.proofs.Common.{take}
use Rattle.std.specs.Io.KnownBytes.{Appends}
use Rattle.std.specs.List.{flat_map}
use Rattle.sim_ending.specs.Endings.{row_line}
use Rattle.sim_ending.proofs.allocations.print_rows.Given as goal

-- the lines of the rows so far
abbrev pub invariant-loop-row : goal.invariant-loop-row
invariant-loop-row g l = Appends (g.W.Write.contents l.fn.out) (g.W.Write.contents l.out) (flat_map row_line (take l.row-index l.rows))
