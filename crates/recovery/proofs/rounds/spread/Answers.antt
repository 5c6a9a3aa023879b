use Rattle.std.proofs.Common.{arith}
use Rattle.recovery.proofs.Driving.{may_begin, spread_init, spread_can, spread_more, spread_end, spread_stops}
use Rattle.recovery.proofs.rounds.spread.Goals as goal

pub beat_or_time_out-requires : goal.beat_or_time_out-requires
beat_or_time_out-requires g c = may_begin g.D.Of.Machine.spec g.D.Driven.drive c.has_run.ensures.law g.met.D.Of.Machine.lawful c.args.world.now c.has_run.ensures.group c.args.who c.sent_count-first.result c.sent_count-first.ensures c.requires

pub loop-place-init : goal.loop-place-init
loop-place-init g c = spread_init g.D.Of.Machine.spec g.D.Driven.drive c.has_run.ensures.law g.met.D.Of.Machine.lawful c.args.world.now c.has_run.ensures.group c.args.who c.sent_count-first.result c.sent_count-first.ensures c.requires c.beat_or_time_out.new.world c.sent_count-end.result c.sent_count-end.ensures c.in-Ok.ensures.ok

pub swap-requires : goal.swap-requires
swap-requires g c = spread_can g.D.Of.Machine.spec g.D.Driven.drive c.has_run.ensures.law g.met.D.Of.Machine.lawful c.args.world.now c.has_run.ensures.group c.args.who c.sent_count-first.result c.sent_count-first.ensures c.requires c.loop-place.world c.loop-place.place c.sent_count-end.result c.loop-place.invariant (omega arith)

pub loop-place-preserved : goal.loop-place-preserved
loop-place-preserved g c = spread_more g.D.Of.Machine.spec g.D.Driven.drive c.has_run.ensures.law g.met.D.Of.Machine.lawful c.args.world.now c.has_run.ensures.group c.args.who c.sent_count-first.result c.sent_count-first.ensures c.requires c.loop-place.world c.loop-place.place c.sent_count-end.result c.loop-place.invariant (omega arith) c.swap.new.world c.in-Ok-swap.ensures.ok

pub returns-clause-ok : goal.returns-clause-ok
returns-clause-ok g c = spread_end g.D.Of.Machine.spec g.D.Driven.drive c.has_run.ensures.law g.met.D.Of.Machine.lawful c.args.world.now c.has_run.ensures.group c.args.who c.sent_count-first.result c.sent_count-first.ensures c.requires c.loop-place.world c.loop-place.place c.sent_count-end.result c.loop-place.invariant (omega arith)

pub returns-in-Err-swap-clause-err : goal.returns-in-Err-swap-clause-err
returns-in-Err-swap-clause-err g c = spread_stops g.D.Of.Machine.spec g.D.Driven.drive c.has_run.ensures.law g.met.D.Of.Machine.lawful c.args.world.now c.has_run.ensures.group c.args.who c.sent_count-first.result c.sent_count-first.ensures c.requires c.loop-place.world c.loop-place.place c.sent_count-end.result c.loop-place.invariant (omega arith) c.swap.new.world c.in-Err-swap.why c.in-Err-swap.ensures.err
