use Rattle.std.proofs.Common.{take}
use Rattle.sim_sweep.specs.Inner.Found.{AreFound, ArePlaced, StayFound}
use Rattle.sim_sweep.proofs.sweeping.put_rows.Given as goal

-- the rows so far stand at their places, and none that stood is gone
abbrev pub invariant-loop-placed : goal.invariant-loop-placed
invariant-loop-placed l = record {
  found : AreFound l.task.scenario.now l.task.settings l.task.first l.found;
  put : ArePlaced (take l.placed-index l.rows) l.found;
  kept : StayFound l.fn.found l.found;
}
