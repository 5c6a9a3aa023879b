use Rattle.std.proofs.Common.{◌≡◌, ◌++◌, drop}
use Rattle.group_model.specs.Acceptance.{on}
use Rattle.plan_apply.proofs.places.places_on.Given as goal

abbrev pub invariant-loop-place : goal.invariant-loop-place
invariant-loop-place l = l.on ++ on l.node (drop l.place-index l.places) ≡ on l.node l.places
