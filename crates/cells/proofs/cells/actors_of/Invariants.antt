use Rattle.std.proofs.Common.{◌≡◌, take}
use Rattle.cells.specs.Groups.{cell_actors}
use Rattle.cells.proofs.cells.actors_of.Given as goal

abbrev pub invariant-loop-cell : goal.invariant-loop-cell
invariant-loop-cell g l = l.actors.items ≡ cell_actors (take l.cell-index l.cells)
