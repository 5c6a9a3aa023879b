use Rattle.recovery.specs.Inner.Drives.{Ever}
use Rattle.recovery.specs.Inner.Goings.{IsServerOf}
use Rattle.recovery.proofs.Picks.{BestBelow}
use Rattle.recovery.proofs.choosing.best.Given as goal

abbrev pub invariant-loop-position : goal.invariant-loop-position
invariant-loop-position g l = IsServerOf (g.D.Driven.drive.size l.world) l.best × Ever g.D.Driven.drive l.world (λ w. BestBelow (g.D.Driven.drive.size l.world) l.best l.position w)
