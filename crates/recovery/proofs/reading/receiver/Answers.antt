use Rattle.recovery.proofs.Looks.{for_server, for_down, for_none}
use Rattle.recovery.proofs.reading.receiver.Goals as goal

pub returns-then-is_up-clause-some : goal.returns-then-is_up-clause-some
returns-then-is_up-clause-some g c = for_server g.D.Of.Machine.spec g.D.Driven.drive c.args.world.now c.args.place c.in-Some.server c.addressee.result c.in-Some.is c.addressee.ensures c.if-is_up.ensures

pub returns-else-is_up-clause-none : goal.returns-else-is_up-clause-none
returns-else-is_up-clause-none g c = for_down g.D.Of.Machine.spec g.D.Driven.drive c.args.world.now c.args.place c.in-Some.server c.addressee.result c.in-Some.is c.addressee.ensures c.if-is_up.ensures

pub returns-in-None-clause-none : goal.returns-in-None-clause-none
returns-in-None-clause-none g c = for_none g.D.Of.Machine.spec g.D.Driven.drive c.args.world.now c.args.place c.addressee.result c.in-None.is c.addressee.ensures
