use Rattle.std.proofs.Common.{◌≡◌, ◌++◌, map}
use Rattle.std.specs.List.{repeat}
use Rattle.sim_expand.specs.ShortSteps.{short_step}
use Rattle.sim_expand.proofs.short.put_times.Given as goal

-- copies are put so often
abbrev pub invariant-loop : goal.invariant-loop
invariant-loop l = map short_step l.steps.items ≡ map short_step l.fn.steps.items ++ repeat l.counter (map short_step l.own.items)
