use Rattle.std.proofs.Common.{◌≡◌, ◌++◌, map}
use Rattle.std.specs.Vec.Iter.{into_iter_items}
use Rattle.sim_expand.specs.ShortSteps.{short_step}
use Rattle.sim_expand.proofs.short.put_all.Given as goal

-- those so far are put
abbrev pub invariant-loop-step : goal.invariant-loop-step
invariant-loop-step l =
    (l.yielded ++ into_iter_items l.step-iterator ≡ l.fn.own.items)
    × (map short_step l.steps.items ≡ map short_step l.fn.steps.items ++ map short_step l.yielded)
