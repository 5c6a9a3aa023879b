use Rattle.std.proofs.Common.{◌≡◌, take}
use Rattle.std.specs.List.{count_by}
use Rattle.sim_metrics.specs.Metrics.{is_place_of}
use Rattle.sim_metrics.proofs.metrics.count_places.Given as goal

abbrev pub invariant-loop-place : goal.invariant-loop-place
invariant-loop-place l = l.count ≡ count_by (is_place_of l.group) (take l.place-index l.places)
