use Rattle.std.proofs.Common.{length}
use Rattle.cells.proofs.cells.+position_among.Given as goal

abbrev pub decreases-position_among : goal.decreases-position_among
decreases-position_among l = length l.actors.now
