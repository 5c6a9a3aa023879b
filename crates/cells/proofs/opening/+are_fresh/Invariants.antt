use Rattle.std.proofs.Common.{length}
use Rattle.cells.proofs.opening.+are_fresh.Given as goal

abbrev pub decreases-are_fresh : goal.decreases-are_fresh
decreases-are_fresh g l = length l.cells.now
