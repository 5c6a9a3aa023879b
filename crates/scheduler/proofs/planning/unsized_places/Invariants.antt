use Rattle.std.proofs.Common.{◌≡◌, ◌++◌, map, drop}
use Rattle.group_model.specs.Scheduling.{unsized}
use Rattle.scheduler.proofs.planning.unsized_places.Given as goal

abbrev pub invariant-loop-place : goal.invariant-loop-place
invariant-loop-place l = l.those ++ map unsized (drop l.place-index l.places) ≡ map unsized l.places
