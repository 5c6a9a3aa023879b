use Rattle.std.specs.List.{AllZip}
use Rattle.sim_sweep.specs.Rows.{IsRow, keys_from}
use Rattle.sim_sweep.proofs.sweeping.in_order.Given as goal

-- the rows of the keys so far
abbrev pub invariant-loop-position : goal.invariant-loop-position
invariant-loop-position l = AllZip (IsRow l.task.scenario.now l.task.settings) (keys_from l.task.first l.position) l.rows.items
