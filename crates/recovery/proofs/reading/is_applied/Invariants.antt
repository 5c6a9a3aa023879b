use Rattle.std.proofs.Common.{◌≤◌}
use Rattle.recovery.specs.Inner.Drives.{Ever}
use Rattle.recovery.proofs.Looks.{UpAre}
use Rattle.recovery.proofs.reading.is_applied.Given as goal

abbrev pub invariant-loop-position : goal.invariant-loop-position
invariant-loop-position g l = Ever g.D.Driven.drive l.world (λ w. UpAre (λ s. l.last ≤ s.commit) l.position w)
