use Rattle.recovery.specs.Inner.Drives.{Ever}
use Rattle.recovery.proofs.Looks.{UpAre}
use Rattle.recovery.proofs.Picks.{Roomy}
use Rattle.recovery.proofs.choosing.has_room.Given as goal

abbrev pub invariant-loop-position : goal.invariant-loop-position
invariant-loop-position g l = Ever g.D.Driven.drive l.world (λ w. UpAre Roomy l.position w)
