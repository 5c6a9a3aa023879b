use Rattle.sim_play.proofs.Plays.{up_or_down}
use Rattle.sim_play.proofs.play.is_up.Goals as goal

pub returns-in-Some : goal.returns-in-Some
returns-in-Some c = rw c.is_some.ensures (up_or_down c.args.world.now c.args.server c.in-Some.server.now c.in-Some.ensures c.applied.result c.applied.ensures.value)
