use Rattle.std.proofs.Common.{length}
use Rattle.cells.proofs.opening.+are_unused.Given as goal

abbrev pub decreases-are_unused : goal.decreases-are_unused
decreases-are_unused g l = length l.seats.now
