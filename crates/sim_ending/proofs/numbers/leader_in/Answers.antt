use Rattle.std.proofs.Common.{arith}
use Rattle.sim_ending.proofs.Leading.{first_leads, none_leads_all, none_leads_more, place_is}
use Rattle.sim_ending.proofs.numbers.leader_in.Goals as goal

pub loop-position-preserved : goal.loop-position-preserved
loop-position-preserved c =
    none_leads_more c.args.world.now.servers c.loop-position.position c.server_at.result.now c.server_at.ensures c.args.term c.loop-position.invariant c.if-leads_in.ensures

pub returns-then-leads_in : goal.returns-then-leads_in
returns-then-leads_in c =
    first_leads c.args.world.now.servers c.loop-position.position c.server_at.result.now c.server_at.ensures c.args.term c.loop-position.invariant c.if-leads_in.ensures c.from_position.result
    (place_is c.from_position.result c.loop-position.position c.size-position-end.result c.from_position.ensures.some c.from_position.ensures.none (omega arith) c.size-position-end.ensures.group)

pub returns : goal.returns
returns c = none_leads_all c.args.world.now.servers c.loop-position.position c.args.term (omega arith) c.loop-position.invariant
