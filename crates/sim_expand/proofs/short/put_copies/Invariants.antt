use Rattle.std.proofs.Common.{◌≡◌, ◌++◌, map, take}
use Rattle.sim_expand.specs.ShortSteps.{short_step}
use Rattle.sim_expand.proofs.short.put_copies.Given as goal

-- copies of those so far are put
abbrev pub invariant-loop-step : goal.invariant-loop-step
invariant-loop-step l = map short_step l.steps.items ≡ map short_step l.fn.steps.items ++ map short_step (take l.step-index l.own)
