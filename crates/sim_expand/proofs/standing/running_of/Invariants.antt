use Rattle.std.proofs.Common.{◌≡◌, take}
use Rattle.std.specs.List.{flat_map}
use Rattle.sim_expand.specs.Inner.GroupStandings.{running_at}
use Rattle.sim_expand.proofs.standing.running_of.Given as goal

abbrev pub invariant-loop-client : goal.invariant-loop-client
invariant-loop-client l = l.running.items ≡ flat_map running_at (take l.client-index l.clients)
