use Rattle.std.proofs.Common.{refl, arith}
use Rattle.recovery.proofs.Driving.{confirm_init, confirm_may, confirm_round, confirm_applied, confirm_end, confirm_stops}
use Rattle.recovery.proofs.rounds.confirm.Goals as goal

pub loop-round-init : goal.loop-round-init
loop-round-init g c = confirm_init g.D.Of.Machine.spec g.D.Driven.drive c.has_run.ensures.law g.met.D.Of.Machine.lawful c.args.world.now c.has_run.ensures.group c.args.who c.last_of.result c.last_of.ensures.value c.requires

pub spread-requires : goal.spread-requires
spread-requires g c = confirm_may g.D.Of.Machine.spec g.D.Driven.drive c.has_run.ensures.law g.met.D.Of.Machine.lawful c.args.world.now c.has_run.ensures.group c.args.who c.last_of.result c.last_of.ensures.value c.requires c.loop-round.world c.loop-round.round c.loop-round.invariant

pub loop-round-preserved : goal.loop-round-preserved
loop-round-preserved g c = confirm_round g.D.Of.Machine.spec g.D.Driven.drive c.has_run.ensures.law g.met.D.Of.Machine.lawful c.args.world.now c.has_run.ensures.group c.args.who c.last_of.result c.last_of.ensures.value c.requires c.loop-round.world c.loop-round.round c.loop-round.invariant c.spread.new.world c.in-Ok.ensures.ok

pub returns-then-is_applied-clause-ok : goal.returns-then-is_applied-clause-ok
returns-then-is_applied-clause-ok g c = confirm_applied g.D.Of.Machine.spec g.D.Driven.drive c.has_run.ensures.law g.met.D.Of.Machine.lawful c.args.world.now c.has_run.ensures.group c.args.who c.last_of.result c.last_of.ensures.value c.requires c.loop-round.world c.loop-round.round c.loop-round.invariant (omega arith) (c.if-is_applied.ensures refl)

pub returns-in-Err-clause-err : goal.returns-in-Err-clause-err
returns-in-Err-clause-err g c = confirm_stops g.D.Of.Machine.spec g.D.Driven.drive c.has_run.ensures.law g.met.D.Of.Machine.lawful c.args.world.now c.has_run.ensures.group c.args.who c.last_of.result c.last_of.ensures.value c.requires c.loop-round.world c.loop-round.round c.loop-round.invariant c.spread.new.world c.in-Err.why c.in-Err.ensures.err

pub returns-clause-ok : goal.returns-clause-ok
returns-clause-ok g c = confirm_end g.D.Of.Machine.spec g.D.Driven.drive c.has_run.ensures.law g.met.D.Of.Machine.lawful c.args.world.now c.has_run.ensures.group c.args.who c.last_of.result c.last_of.ensures.value c.requires c.loop-round.world c.loop-round.round c.loop-round.invariant (omega arith)
