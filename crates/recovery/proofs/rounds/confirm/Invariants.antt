use Rattle.recovery.specs.Inner.Drives.{Went}
use Rattle.recovery.specs.Inner.Spreads.{ConfirmSoFar}
use Rattle.recovery.proofs.rounds.confirm.Given as goal

abbrev pub invariant-loop-round : goal.invariant-loop-round
invariant-loop-round g l = Went g.D.Driven.drive l.fn.world l.world (λ es w x. ConfirmSoFar g.D.Of.Machine.spec (g.D.Driven.drive.size l.fn.world) l.who l.round es w x)
