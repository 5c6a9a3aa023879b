use Rattle.std.specs.List.{All}
use Rattle.sim_sweep.specs.Inner.Found.{IsNumbered}
use Rattle.sim_sweep.proofs.sweeping.brought_by_one.Given as goal

-- what was brought so far
abbrev pub invariant-loop : goal.invariant-loop
invariant-loop g l = All (IsNumbered l.task.scenario.now l.task.settings l.task.first) l.rows.items
