use Rattle.std.proofs.Common.{true, false, refl}
use Rattle.std.proofs.lemmas.Result.{on_ok_weaker, IfErr-weaker}
use Rattle.recovery.proofs.Driving.{beat_taken, stand_taken, beat_done, stand_done, own_stops}
use Rattle.recovery.proofs.events.beat_or_time_out.Goals as goal

pub let_happen-requires : goal.let_happen-requires
let_happen-requires g c = beat_taken g.D.Of.Machine.spec g.D.Driven.drive c.has_run.ensures.law c.args.world.now c.args.who true c.requires c.if-leads.ensures refl

pub let_happen-requires-else-leads : goal.let_happen-requires-else-leads
let_happen-requires-else-leads g c = stand_taken g.D.Of.Machine.spec g.D.Driven.drive c.has_run.ensures.law c.args.world.now c.args.who false c.requires c.if-leads.ensures refl

pub returns-then-leads-clause-ok : goal.returns-then-leads-clause-ok
returns-then-leads-clause-ok g c = on_ok_weaker c.let_happen.result (beat_done g.D.Of.Machine.spec g.D.Driven.drive c.has_run.ensures.law c.args.world.now c.args.who true c.requires c.if-leads.ensures c.let_happen.new.self refl) c.let_happen.ensures.ok

pub returns-then-leads-clause-err : goal.returns-then-leads-clause-err
returns-then-leads-clause-err g c = IfErr-weaker c.let_happen.result _ _ (λ why h. own_stops g.D.Of.Machine.spec g.D.Driven.drive c.has_run.ensures.law c.args.world.now c.let_happen.new.self c.args.who why c.requires h) c.let_happen.ensures.err

pub returns-else-leads-clause-ok : goal.returns-else-leads-clause-ok
returns-else-leads-clause-ok g c = on_ok_weaker c.let_happen-else-leads.result (stand_done g.D.Of.Machine.spec g.D.Driven.drive c.has_run.ensures.law c.args.world.now c.args.who false c.requires c.if-leads.ensures c.let_happen-else-leads.new.self refl) c.let_happen-else-leads.ensures.ok

pub returns-else-leads-clause-err : goal.returns-else-leads-clause-err
returns-else-leads-clause-err g c = IfErr-weaker c.let_happen-else-leads.result _ _ (λ why h. own_stops g.D.Of.Machine.spec g.D.Driven.drive c.has_run.ensures.law c.args.world.now c.let_happen-else-leads.new.self c.args.who why c.requires h) c.let_happen-else-leads.ensures.err
