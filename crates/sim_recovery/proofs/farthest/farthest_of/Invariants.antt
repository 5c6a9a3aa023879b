use Rattle.std.proofs.Common.{◌∷◌, take}
use Rattle.sim_recovery.specs.Farthest.{IsFarthest}
use Rattle.sim_recovery.proofs.farthest.farthest_of.Given as goal

-- the farthest of the rows so far
abbrev pub invariant-loop-row : goal.invariant-loop-row
invariant-loop-row l = IsFarthest (l.first ∷ take l.row-index l.others) l.farthest
