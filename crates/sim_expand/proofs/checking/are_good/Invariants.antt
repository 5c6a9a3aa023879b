use Rattle.std.proofs.Common.{take}
use Rattle.sim_expand.specs.Checked.{AreGood}
use Rattle.sim_expand.proofs.checking.are_good.Given as goal

-- those so far are good
abbrev pub invariant-loop-step : goal.invariant-loop-step
invariant-loop-step l = AreGood (take l.step-index l.steps)
