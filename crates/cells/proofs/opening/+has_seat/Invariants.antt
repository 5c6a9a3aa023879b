use Rattle.std.proofs.Common.{length}
use Rattle.cells.proofs.opening.+has_seat.Given as goal

abbrev pub decreases-has_seat : goal.decreases-has_seat
decreases-has_seat g l = length l.cells.now
