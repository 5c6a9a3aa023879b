use Rattle.std.proofs.Common.{◌+◌, sym, subst, arith}
use Rattle.std.proofs.lemmas.Result.{on_ok_weaker, IfErr-weaker}
use Rattle.recovery.specs.Inner.Drives.{KnownAt, WentAt, SwapStops}
use Rattle.recovery.specs.Inner.Spreads.{CanExchange, SwapDone}
use Rattle.recovery.proofs.Driving.{hear_act, hear_within, hear_level, hear_exchange, hear_place, hear_told, hear_stops}
use Rattle.recovery.proofs.rounds.observe_newer_term.Goals as goal

pub beat_or_time_out-requires : goal.beat_or_time_out-requires
beat_or_time_out-requires g c = hear_act g.D.Of.Machine.spec g.D.Driven.drive c.has_run.ensures.law c.args.world.now c.args.who c.args.ahead c.sent_count-first.result c.sent_count-first.ensures c.requires

pub is_behind-requires : goal.is_behind-requires
is_behind-requires g c = hear_within g.D.Of.Machine.spec g.D.Driven.drive c.has_run.ensures.law c.args.world.now c.args.who c.args.ahead c.sent_count-first.result c.sent_count-first.ensures c.requires c.beat_or_time_out.new.world c.in-Ok.ensures.ok

pub returns-then-not-is_behind-clause-ok : goal.returns-then-not-is_behind-clause-ok
returns-then-not-is_behind-clause-ok g c = hear_level g.D.Of.Machine.spec g.D.Driven.drive c.has_run.ensures.law c.args.world.now c.args.who c.args.ahead c.sent_count-first.result c.sent_count-first.ensures c.requires c.beat_or_time_out.new.world c.in-Ok.ensures.ok c.if-not-is_behind.ensures

pub overflow_add-place : goal.overflow_add-place
overflow_add-place g c =
    let within = hear_place g.D.Of.Machine.spec g.D.Driven.drive c.has_run.ensures.law c.args.world.now c.args.who c.args.ahead c.sent_count-first.result c.sent_count-first.ensures c.requires c.beat_or_time_out.new.world c.in-Ok.ensures.ok c.if-not-is_behind.ensures c.sent_count-end.result c.sent_count-end.ensures in
    omega (arith, within, c.seat.ensures.value)

pub exchange-requires : goal.exchange-requires
exchange-requires g c =
    subst (λ q. KnownAt g.D.Driven.drive c.beat_or_time_out.new.world (c.sent_count-first.result + q) (λ p v. CanExchange g.D.Of.Machine.spec c.args.who p c.args.ahead v)) (sym c.seat.ensures.value)
    (hear_exchange g.D.Of.Machine.spec g.D.Driven.drive c.has_run.ensures.law c.args.world.now c.args.who c.args.ahead c.sent_count-first.result c.sent_count-first.ensures c.requires c.beat_or_time_out.new.world c.in-Ok.ensures.ok c.if-not-is_behind.ensures)

pub returns-clause-ok : goal.returns-clause-ok
returns-clause-ok g c =
    on_ok_weaker c.exchange.result (λ h. hear_told g.D.Of.Machine.spec g.D.Driven.drive c.has_run.ensures.law c.args.world.now c.args.who c.args.ahead c.sent_count-first.result c.sent_count-first.ensures c.requires c.beat_or_time_out.new.world c.in-Ok.ensures.ok c.if-not-is_behind.ensures c.exchange.new.world
    (subst (λ q. WentAt g.D.Driven.drive (c.sent_count-first.result + q) c.beat_or_time_out.new.world c.exchange.new.world (λ p es w v. SwapDone g.D.Of.Machine.spec p w es v)) c.seat.ensures.value h)) c.exchange.ensures.ok

pub returns-clause-err : goal.returns-clause-err
returns-clause-err g c =
    IfErr-weaker c.exchange.result _ _ (λ why h. hear_stops g.D.Of.Machine.spec g.D.Driven.drive c.has_run.ensures.law c.args.world.now c.args.who c.args.ahead c.sent_count-first.result c.sent_count-first.ensures c.requires c.beat_or_time_out.new.world c.in-Ok.ensures.ok c.if-not-is_behind.ensures c.exchange.new.world why
    (subst (λ q. SwapStops g.D.Driven.drive (c.sent_count-first.result + q) c.beat_or_time_out.new.world c.exchange.new.world why) c.seat.ensures.value h)) c.exchange.ensures.err
