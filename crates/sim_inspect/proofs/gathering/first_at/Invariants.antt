use Rattle.std.proofs.Common.{◌≡◌, false, take}
use Rattle.std.specs.List.{list_any}
use Rattle.sim_inspect.specs.Inner.Applied.{has_applied}
use Rattle.sim_inspect.proofs.gathering.first_at.Given as goal

abbrev pub invariant-loop-place : goal.invariant-loop-place
invariant-loop-place l = list_any (has_applied l.applied) (take l.place l.world.servers) ≡ false
