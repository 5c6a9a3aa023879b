use Rattle.world.proofs.Begins.{Begun}
use Rattle.world.proofs.world.RaftWorld.new.Given as goal

abbrev pub invariant-loop-position : goal.invariant-loop-position
invariant-loop-position g l = Begun g.M.Machine.spec l.n l.position l.servers.items
