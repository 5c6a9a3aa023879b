use Rattle.world.proofs.GroupBegins.{MadeServers}
use Rattle.world.proofs.group.world.new_servers.Given as goal

abbrev pub invariant-loop-position : goal.invariant-loop-position
invariant-loop-position l = MadeServers l.n l.position l.servers.items
