use Rattle.recovery.proofs.Looks.{up_read, up_none}
use Rattle.recovery.proofs.reading.is_up.Goals as goal

pub returns-in-Some : goal.returns-in-Some
returns-in-Some g c = up_read g.D.Of.Machine.spec g.D.Driven.drive c.args.world.now c.args.server c.in-Some.raft.now c.is_up.result c.in-Some.ensures.some c.is_up.ensures.value

pub returns-in-None : goal.returns-in-None
returns-in-None g c = up_none g.D.Of.Machine.spec g.D.Driven.drive c.args.world.now c.args.server c.in-None.ensures.none
