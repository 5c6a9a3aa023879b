use Rattle.recovery.proofs.Looks.{up_within}
use Rattle.recovery.proofs.Picks.{leads_all_told, leads_not}
use Rattle.recovery.proofs.choosing.leads_all.Goals as goal

pub is_behind-requires : goal.is_behind-requires
is_behind-requires g c =
    let k = c.requires in
    let high = c.highest-ahead.ensures k.past k.moment k.runs in
    (up_within g.D.Of.Machine.spec g.D.Driven.drive c.has_run.ensures.law c.args.world.now c.args.server k.past k.moment k.runs (k.ever k.past k.moment k.runs), high.less)

pub returns-then-not-leads : goal.returns-then-not-leads
returns-then-not-leads g c = leads_not g.D.Of.Machine.spec g.D.Driven.drive c.has_run.ensures.law c.args.world.now c.args.server c.if-not-leads.ensures

pub returns : goal.returns
returns g c = leads_all_told g.D.Of.Machine.spec g.D.Driven.drive c.has_run.ensures.law c.args.world.now c.args.server c.highest-ahead.result c.highest-ahead.ensures c.is_behind.result c.if-not-leads.ensures c.requires c.is_behind.ensures
