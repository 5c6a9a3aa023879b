use Rattle.std.proofs.Common.{refl}
use Rattle.recovery.proofs.Picks.{chosen}
use Rattle.recovery.proofs.Driving.{halted_at}
use Rattle.recovery.proofs.settling.settle_driven.Goals as goal

pub returns-then-not-has_quorum-clause-err : goal.returns-then-not-has_quorum-clause-err
returns-then-not-has_quorum-clause-err g c = (c.if-not-has_quorum.ensures, refl)

pub returns-then-not-has_room-clause-err : goal.returns-then-not-has_room-clause-err
returns-then-not-has_room-clause-err g c = (c.if-not-has_quorum.ensures, c.if-not-has_room.ensures, refl)

pub best-who-requires : goal.best-who-requires
best-who-requires g c = let r = c.has_run.ensures.run in record { past = r.past; moment = r.moment; runs = r.runs; ever = c.if-not-has_quorum.ensures }

pub settle_at-requires : goal.settle_at-requires
settle_at-requires g c = chosen g.D.Of.Machine.spec g.D.Driven.drive c.has_run.ensures.law c.args.world.now c.best-who.result c.has_run.ensures.run c.if-not-has_quorum.ensures c.if-not-has_room.ensures c.best-who.ensures

pub returns-in-Ok-clause-ok : goal.returns-in-Ok-clause-ok
returns-in-Ok-clause-ok g c = record { quorum = c.if-not-has_quorum.ensures; room = c.if-not-has_room.ensures; went = c.in-Ok.ensures.ok }

pub returns-in-Err-clause-err : goal.returns-in-Err-clause-err
returns-in-Err-clause-err g c = halted_at g.D.Of.Machine.spec g.D.Driven.drive c.has_run.ensures.law c.args.world.now c.settle_at.new.world c.best-who.result c.in-Err.why c.if-not-has_quorum.ensures c.if-not-has_room.ensures c.in-Err.ensures.err
