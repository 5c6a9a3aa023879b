use Rattle.std.proofs.Common.{◌≡◌, ◌++◌, map, take}
use Rattle.timers.specs.declared.due.Due.TheVariants.{DrainTurn}
use Rattle.timers.proofs.server_timers.put_drains.Given as goal

abbrev pub invariant-loop-node : goal.invariant-loop-node
invariant-loop-node l = l.due.items ≡ l.fn.due.items ++ map DrainTurn (take l.node-index l.drained)
