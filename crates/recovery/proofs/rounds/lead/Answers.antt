use Rattle.std.proofs.Common.{true, false, refl}
use Rattle.std.proofs.lemmas.Result.{on_ok_weaker}
use Rattle.recovery.proofs.Driving.{lead_already, lead_by}
use Rattle.recovery.proofs.rounds.lead.Goals as goal

pub returns-then-leads-clause-ok : goal.returns-then-leads-clause-ok
returns-then-leads-clause-ok g c = lead_already g.D.Of.Machine.spec g.D.Driven.drive c.has_run.ensures.law c.args.world.now c.args.who true c.requires c.if-leads.ensures refl

pub returns-else-leads-clause-ok : goal.returns-else-leads-clause-ok
returns-else-leads-clause-ok g c = on_ok_weaker c.spread.result (λ h. lead_by g.D.Of.Machine.spec g.D.Driven.drive c.has_run.ensures.law c.args.world.now c.args.who false c.requires c.if-leads.ensures c.spread.new.world refl h) c.spread.ensures.ok
