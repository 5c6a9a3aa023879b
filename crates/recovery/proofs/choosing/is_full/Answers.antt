use Rattle.recovery.proofs.Looks.{none_each}
use Rattle.recovery.proofs.Picks.{Takes, full_read}
use Rattle.recovery.proofs.choosing.is_full.Goals as goal

pub returns-in-Some : goal.returns-in-Some
returns-in-Some g c = full_read g.D.Of.Machine.spec g.D.Driven.drive c.args.world.now c.args.server c.in-Some.raft.now c.in-Some.ensures.some c.is_raft_full.result c.is_raft_full.ensures

pub returns-in-None : goal.returns-in-None
returns-in-None g c = none_each g.D.Of.Machine.spec g.D.Driven.drive c.args.world.now c.args.server Takes c.in-None.ensures.none
