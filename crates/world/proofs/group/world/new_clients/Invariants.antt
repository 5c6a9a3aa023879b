use Rattle.std.proofs.Common.{◌≡◌, take}
use Rattle.world.specs.Inner.GroupInputs.{new_agents}
use Rattle.world.proofs.group.world.new_clients.Given as goal

abbrev pub invariant-loop-position : goal.invariant-loop-position
invariant-loop-position l = l.clients.items ≡ new_agents l.n 1 (take l.position l.nodes)
