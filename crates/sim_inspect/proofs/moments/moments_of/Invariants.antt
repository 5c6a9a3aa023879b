use Rattle.std.proofs.Common.{◌≡◌, ◌+◌, length}
use Rattle.sim_inspect.proofs.moments.moments_of.Given as goal

abbrev pub invariant-loop-event : goal.invariant-loop-event
invariant-loop-event l = length l.recorder ≡ l.event-index + 1
