use Rattle.std.proofs.Common.{◌≡◌, ◌++◌, map, take}
use Rattle.sim_expand.specs.Inner.GroupStandings.{running_id}
use Rattle.sim_expand.proofs.standing.put_ids.Given as goal

abbrev pub invariant-loop-allocation : goal.invariant-loop-allocation
invariant-loop-allocation l = l.ids.items ≡ l.fn.ids.items ++ map running_id (take l.allocation-index l.own)
