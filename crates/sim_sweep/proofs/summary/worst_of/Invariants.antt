use Rattle.std.proofs.Common.{◌∷◌, take}
use Rattle.sim_sweep.specs.Summaries.{IsWorst}
use Rattle.sim_sweep.proofs.summary.worst_of.Given as goal

-- the worst of the runs so far
abbrev pub invariant-loop-row : goal.invariant-loop-row
invariant-loop-row l = IsWorst (l.first ∷ take l.row-index l.others) l.worst
