use Rattle.std.proofs.Common.{◌≡◌}
use Rattle.sim_inspect.proofs.moments.put_states.Given as goal

abbrev pub invariant-loop-one : goal.invariant-loop-one
invariant-loop-one l = l.recorder ≡ l.fn.recorder
