use Rattle.recovery.specs.Inner.Drives.{WentOf}
use Rattle.recovery.proofs.Driving.{SpreadTold}
use Rattle.recovery.proofs.rounds.spread.Given as goal

abbrev pub invariant-loop-place : goal.invariant-loop-place
invariant-loop-place g l = WentOf g.D.Driven.drive l.fn.world l.world (λ ts w x. SpreadTold g.D.Of.Machine.spec g.D.Driven.drive l.who l.place l.end ts w x)
