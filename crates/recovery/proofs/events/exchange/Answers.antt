use Rattle.std.proofs.lemmas.Result.{on_ok_weaker, IfErr-weaker}
use Rattle.recovery.proofs.Driving.{request_taken, request_stops, answer_taken, exchange_done, answer_stops}
use Rattle.recovery.proofs.events.exchange.Goals as goal

pub let_happen-requires : goal.let_happen-requires
let_happen-requires g c = request_taken g.D.Of.Machine.spec g.D.Driven.drive c.has_run.ensures.law c.args.world.now c.args.who c.args.place c.args.server c.requires

pub let_happen-requires-in-Ok : goal.let_happen-requires-in-Ok
let_happen-requires-in-Ok g c = answer_taken g.D.Of.Machine.spec g.D.Driven.drive c.has_run.ensures.law c.args.world.now c.args.who c.args.place c.args.server c.requires c.let_happen.new.self c.sent_count-answer.result c.sent_count-answer.ensures c.in-Ok.ensures.ok

pub returns-in-Ok-clause-ok : goal.returns-in-Ok-clause-ok
returns-in-Ok-clause-ok g c = on_ok_weaker c.let_happen-in-Ok.result (exchange_done g.D.Of.Machine.spec g.D.Driven.drive c.has_run.ensures.law c.args.world.now c.args.who c.args.place c.args.server c.requires c.let_happen.new.self c.sent_count-answer.result c.sent_count-answer.ensures c.in-Ok.ensures.ok c.let_happen-in-Ok.new.self) c.let_happen-in-Ok.ensures.ok

pub returns-in-Ok-clause-err : goal.returns-in-Ok-clause-err
returns-in-Ok-clause-err g c = IfErr-weaker c.let_happen-in-Ok.result _ _ (λ why h. answer_stops g.D.Of.Machine.spec g.D.Driven.drive c.has_run.ensures.law c.args.world.now c.args.who c.args.place c.args.server c.requires c.let_happen.new.self c.sent_count-answer.result c.sent_count-answer.ensures c.in-Ok.ensures.ok c.let_happen-in-Ok.new.self why h) c.let_happen-in-Ok.ensures.err

pub returns-in-Err-clause-err : goal.returns-in-Err-clause-err
returns-in-Err-clause-err g c = request_stops g.D.Of.Machine.spec g.D.Driven.drive c.has_run.ensures.law c.args.world.now c.args.who c.args.place c.args.server c.requires c.let_happen.new.self c.in-Err.why c.in-Err.ensures.err
