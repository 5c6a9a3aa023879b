use Rattle.std.proofs.Common.{◌≡◌, ◌+◌, ◌≤◌, length, map}
use Rattle.rows.specs.Keys.{alloc_id}
use Rattle.group_model.specs.Acceptance.{keep_upto}
use Rattle.plan_apply.specs.Inner.Overlay.{kept_so_far, stops_alone}
use Rattle.plan_apply.proofs.Fewness.{places_past}
use Rattle.plan_apply.proofs.nodes.kept_places.Given as goal

abbrev pub invariant-loop-before : goal.invariant-loop-before
invariant-loop-before l = record {
  is : kept_so_far l.stopped l.kept ≡ keep_upto l.state l.job l.plan (stops_alone (map alloc_id l.stopped)) l.before;
  few : length l.kept.places + length (places_past l.before l.plan.places) ≤ 64;
}
