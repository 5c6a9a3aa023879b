use Rattle.std.proofs.Common.{◌≡◌, ◌++◌, is_some, drop}
use Rattle.std.specs.Prelude.{filter_map}
use Rattle.std.specs.List.{list_all}
use Rattle.group_model.specs.Acceptance.{sized_on}
use Rattle.plan_apply.proofs.places.all_sized.Given as goal

abbrev pub invariant-loop-place : goal.invariant-loop-place
invariant-loop-place l = record {
  sized : l.sized ++ filter_map (sized_on l.job l.node) (drop l.place-index l.places) ≡ filter_map (sized_on l.job l.node) l.places;
  each : list_all (λ k. is_some (sized_on l.job l.node k)) (drop l.place-index l.places) ≡ list_all (λ k. is_some (sized_on l.job l.node k)) l.places;
}
