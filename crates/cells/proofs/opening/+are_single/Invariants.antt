use Rattle.std.proofs.Common.{length}
use Rattle.cells.proofs.opening.+are_single.Given as goal

abbrev pub decreases-are_single : goal.decreases-are_single
decreases-are_single g l = length l.cells.now
