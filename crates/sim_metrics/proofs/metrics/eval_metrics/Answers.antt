use Rattle.std.proofs.Common.{◌≡◌, ◌∙◌, ◌<◌, ◌+◌, ◌++◌, ◌∷◌, [], List, ap, length, rules, subst, sym, take}
use Rattle.std.specs.List.{AllZip}
use Rattle.std.proofs.lemmas.List.{take_more}
use Rattle.rows.specs.declared.job.Group.{Group}
use Rattle.group_model.specs.Scheduling.{WorkerPlan}
use Rattle.sim_metrics.specs.Metrics.{IsOfGroup}
use Rattle.sim_metrics.specs.declared.metrics.GroupMetrics.{GroupMetrics}
use Rattle.sim_metrics.proofs.Rooms.{zip_push}
use Rattle.sim_metrics.proofs.metrics.eval_metrics.Goals as goal

pub loop-group-preserved : goal.loop-group-preserved
loop-group-preserved c =
    let made = c.plan-2.inside in
    let p : WorkerPlan = record { stops = made.stops; places = made.places; version = made.version; snapshot = made.snapshot; all_placed = made.all_placed } in
    let R = IsOfGroup c.args.state.now c.args.eval.now.job p in
    let items = c.wanted_groups-group-items.result.now in
    let i = c.loop-group.group-index in
    let x = c.group-item.result in
    let inside : i < length items = c.loop-group-test.true in
    let taken : take (i + 1) items ≡ take i items ++ x ∷ [] = take_more items i x inside ∙ ap (λ y. take i items ++ y ∷ []) (sym c.group-item.is) in
    let m = c.in_ok-group_metrics.field-0 in
    let same : c.in_ok-plan.plan ≡ p = search (rules, c.plan-2.view_is) in
    let own = subst (λ (q : WorkerPlan). IsOfGroup c.args.state.now c.args.eval.now.job q x m) same c.in_ok-group_metrics.ensures in
    let whole = zip_push R (take i items) c.loop-group.all.items x m c.loop-group.invariant own in
    subst (λ (gs : List Group). AllZip R gs c.push.new.self.items) (sym taken) (subst (λ (ms : List GroupMetrics). AllZip R (take i items ++ x ∷ []) ms) (sym c.in_ok-push.ensures.items) whole)
