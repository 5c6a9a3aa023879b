use Rattle.std.proofs.Common.{◌≡◌, List, length, map, sym, ap, ◌∙◌, arith}
use Rattle.std.proofs.lemmas.List.{length-map}
use Rattle.rows.specs.declared.allocation.AllocId.{AllocId}
use Rattle.rows.specs.Keys.{alloc_id}
use Rattle.group_model.specs.Acceptance.{kept_stops, keep_upto}
use Rattle.plan_apply.specs.Inner.Overlay.{stops_alone}
use Rattle.plan_apply.proofs.Stopping.{few_stops}
use Rattle.plan_apply.proofs.check.keep.Goals as goal

pub kept_places-requires-clause-few_stops : goal.kept_places-requires-clause-few_stops
kept_places-requires-clause-few_stops c =
    let most = c.ranges-2.ensures.5.0 in
    let few = few_stops c.args.state.now c.args.plan.now in
    let same : length (map alloc_id c.in_ok-stopped.stopped) ≡ length (kept_stops c.args.state.now c.args.plan.now) = ap length c.in_ok-stopped.ensures.ids in
    let size : length (map alloc_id c.in_ok-stopped.stopped) ≡ length c.in_ok-stopped.stopped = length-map c.in_ok-stopped.stopped alloc_id in
    let rows : length c.as_slice-2.result.now ≡ length c.in_ok-stopped.stopped = ap length c.as_slice-2.ensures in
    omega (arith, most, few, same, size, rows)

pub as_batch-requires : goal.as_batch-requires
as_batch-requires c =
    let most = c.ranges-2.ensures.5.0 in
    let few = few_stops c.args.state.now c.args.plan.now in
    let ids = c.in_ok-stops.ensures ∙ ap (map alloc_id) c.as_slice.ensures ∙ c.in_ok-stopped.ensures.ids in
    let same : length c.in_ok-stops.stops ≡ length (kept_stops c.args.state.now c.args.plan.now) = ap length ids in
    omega (arith, most, few, same)

pub returns-clause-kept : goal.returns-clause-kept
returns-clause-kept c =
    let ids = c.in_ok-stopped.ensures.ids in
    let stops = c.as_batch.ensures ∙ c.in_ok-stops.ensures ∙ ap (map alloc_id) c.as_slice.ensures in
    let rows = c.as_slice-2.ensures in
    (λ i. record { stops = stops i; places = c.as_batch-2.ensures i; refused = c.in_ok-kept.kept.refused })
    ∙ (λ i. record { stops = map alloc_id (sym rows i); places = c.in_ok-kept.kept.places; refused = c.in_ok-kept.kept.refused })
    ∙ c.in_ok-kept.ensures.kept
    ∙ ap (λ (zs : List AllocId). keep_upto c.args.state.now c.args.job.now c.args.plan.now (stops_alone zs) 64) (ap (map alloc_id) rows ∙ ids)
