use Rattle.std.proofs.lemmas.Result.{on_ok_weaker, IfErr-weaker}
use Rattle.recovery.proofs.Driving.{then_ready, rise_stops, then_leading, lead_stops, settles}
use Rattle.recovery.proofs.rounds.settle_at.Goals as goal

pub lead-requires : goal.lead-requires
lead-requires g c = then_ready g.D.Of.Machine.spec g.D.Driven.drive c.has_run.ensures.law g.met.D.Of.Machine.lawful c.args.world.now c.has_run.ensures.group c.args.who c.requires c.rise.new.world c.in-Ok.ensures.ok

pub confirm-requires : goal.confirm-requires
confirm-requires g c = then_leading g.D.Of.Machine.spec g.D.Driven.drive c.has_run.ensures.law g.met.D.Of.Machine.lawful c.args.world.now c.has_run.ensures.group c.args.who c.requires c.rise.new.world c.in-Ok.ensures.ok c.lead.new.world c.in-Ok-lead.ensures.ok

pub returns-in-Err-lead-clause-err : goal.returns-in-Err-lead-clause-err
returns-in-Err-lead-clause-err g c = rise_stops g.D.Of.Machine.spec g.D.Driven.drive c.has_run.ensures.law g.met.D.Of.Machine.lawful c.args.world.now c.has_run.ensures.group c.args.who c.requires c.rise.new.world c.in-Ok.ensures.ok c.lead.new.world c.in-Err-lead.why c.in-Err-lead.ensures.err

pub returns-clause-ok : goal.returns-clause-ok
returns-clause-ok g c = on_ok_weaker c.confirm.result (λ h. settles g.D.Of.Machine.spec g.D.Driven.drive c.has_run.ensures.law g.met.D.Of.Machine.lawful c.args.world.now c.has_run.ensures.group c.args.who c.requires c.rise.new.world c.in-Ok.ensures.ok c.lead.new.world c.in-Ok-lead.ensures.ok c.confirm.new.world h) c.confirm.ensures.ok

pub returns-clause-err : goal.returns-clause-err
returns-clause-err g c = IfErr-weaker c.confirm.result _ _ (λ why h. lead_stops g.D.Of.Machine.spec g.D.Driven.drive c.has_run.ensures.law g.met.D.Of.Machine.lawful c.args.world.now c.has_run.ensures.group c.args.who c.requires c.rise.new.world c.in-Ok.ensures.ok c.lead.new.world c.in-Ok-lead.ensures.ok c.confirm.new.world why h) c.confirm.ensures.err
