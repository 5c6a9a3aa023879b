use Rattle.std.proofs.Common.{arith}
use Rattle.sim_ending.proofs.Leading.{term_all, term_more}
use Rattle.sim_ending.proofs.numbers.greatest_term.Goals as goal

pub loop-place-preserved : goal.loop-place-preserved
loop-place-preserved c =
    term_more c.args.world.now.servers c.loop-place.place c.server_at.result.now c.server_at.ensures c.loop-place.term c.term.result c.later-term.result c.loop-place.invariant c.term.ensures.value
    c.later-term.ensures

pub returns : goal.returns
returns c = term_all c.args.world.now.servers c.loop-place.place c.loop-place.term (omega arith) c.loop-place.invariant
