use Rattle.std.proofs.Common.{length}
use Rattle.cells.proofs.opening.+have_seats.Given as goal

abbrev pub decreases-have_seats : goal.decreases-have_seats
decreases-have_seats g l = length l.all.now
