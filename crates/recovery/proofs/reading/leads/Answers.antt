use Rattle.std.proofs.Common.{true, false, sym}
use Rattle.recovery.proofs.Looks.{leads_read, leads_none}
use Rattle.recovery.proofs.reading.leads.Goals as goal

pub returns-in-Some-leader_term : goal.returns-in-Some-leader_term
returns-in-Some-leader_term g c = leads_read g.D.Of.Machine.spec g.D.Driven.drive c.args.world.now c.args.server c.in-Some.raft.now true c.in-Some.ensures.some (λ s r. let z = c.in-Some-leader_term.ensures.value s r in sym z.0)

pub returns-in-None-leader_term : goal.returns-in-None-leader_term
returns-in-None-leader_term g c = leads_read g.D.Of.Machine.spec g.D.Driven.drive c.args.world.now c.args.server c.in-Some.raft.now false c.in-Some.ensures.some (λ s r. sym (c.in-None-leader_term.ensures.value s r))

pub returns-in-None : goal.returns-in-None
returns-in-None g c = leads_none g.D.Of.Machine.spec g.D.Driven.drive c.args.world.now c.args.server c.in-None.ensures.none
