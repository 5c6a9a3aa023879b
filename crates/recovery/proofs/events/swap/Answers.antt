use Rattle.recovery.proofs.Driving.{swap_taken, swap_none}
use Rattle.recovery.proofs.events.swap.Goals as goal

pub exchange-requires : goal.exchange-requires
exchange-requires g c = swap_taken g.D.Of.Machine.spec g.D.Driven.drive c.has_run.ensures.law c.args.world.now c.args.who c.args.place c.in-Some.server c.requires c.in-Some.ensures.some

pub returns-in-None-clause-ok : goal.returns-in-None-clause-ok
returns-in-None-clause-ok g c = swap_none g.D.Of.Machine.spec g.D.Driven.drive c.has_run.ensures.law c.args.world.now c.args.who c.args.place c.requires c.in-None.ensures.none
