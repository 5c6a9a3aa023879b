use Rattle.recovery.specs.Inner.Drives.{Ever}
use Rattle.recovery.proofs.Looks.{HighestBelow}
use Rattle.recovery.proofs.reading.highest.Given as goal

abbrev pub invariant-loop-position : goal.invariant-loop-position
invariant-loop-position g l = Ever g.D.Driven.drive l.world (λ w. HighestBelow (g.D.Driven.drive.size l.world) l.top l.position w)
