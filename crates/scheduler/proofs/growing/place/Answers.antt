use Rattle.std.proofs.Common.{◌≡◌, ◌++◌, ◌∷◌, [], List, T, get_or, map, option_map, sym, ap, subst, ◌∙◌, inr}
use Rattle.std.specs.List.{AllByRecursion}
use Rattle.std.specs.Ordering.{nat_cmp}
use Rattle.rows.specs.declared.node.Node.{Node}
use Rattle.rows.specs.declared.allocation.Allocation.{Allocation}
use Rattle.rows.specs.declared.command.AcceptedPlace.{AcceptedPlace}
use Rattle.rows.specs.Fits.{NodeFits}
use Rattle.rows.specs.Keys.{node_number, alloc_cmp, alloc_id}
use Rattle.rows.specs.Rising.{is_rising}
use Rattle.group_model.specs.Scheduling.{WantedName, PlanPart, live_of_name, claimed_by, with_stop, with_place, place_on}
use Rattle.scheduler.specs.Inner.Loads.{load_of, load_less, with_load}
use Rattle.scheduler.specs.Inner.Growing.{part_of, fresh}
use Rattle.scheduler.proofs.Shares.{loads_more}
use Rattle.scheduler.proofs.Placing.{loads_without, next_nowhere, best_is, best_has_room}
use Rattle.scheduler.proofs.growing.place.Goals as goal

pub returns-in_default-clause-next : goal.returns-in_default-clause-next
returns-in_default-clause-next c =
    let s = c.args.state.now in
    let p = part_of c.args.plan.now in
    let nodes = subst (λ (rows : List Node). T (is_rising nat_cmp node_number rows)) c.node_table.ensures.rows c.ranges-2.ensures.rising in
    let allocs = subst (λ (rows : List Allocation). T (is_rising alloc_cmp alloc_id rows)) c.alloc_table.ensures.rows c.ranges-3.ensures.rising in
    let gone = c.fresh-gone.ensures ∙ (λ i. fresh (c.as_slice.ensures i) (c.live-old.ensures i)) in
    next_nowhere s c.args.job.now c.args.name.now p allocs c.deref.result.now (option_map (λ r. r.now) c.fresh-gone.result) c.name.inside.group nodes
    (c.deref.ensures.value ∙ c.requires) gone (ap (λ (z : WantedName). z.group) c.name.view_is) c.in_default.ensures

pub returns-clause-next : goal.returns-clause-next
returns-clause-next c =
    let s = c.args.state.now in
    let job = c.args.job.now in
    let w = c.args.name.now in
    let p = part_of c.args.plan.now in
    let l = c.index.result.now in
    let nodes = subst (λ (rows : List Node). T (is_rising nat_cmp node_number rows)) c.node_table.ensures.rows c.ranges-2.ensures.rising in
    let allocs = subst (λ (rows : List Allocation). T (is_rising alloc_cmp alloc_id rows)) c.alloc_table.ensures.rows c.ranges-3.ensures.rising in
    let gone = c.fresh-gone.ensures ∙ (λ i. fresh (c.as_slice.ensures i) (c.live-old.ensures i)) in
    let here : l ≡ get_or c.deref.result.now c.in-Some.at l = c.index.ensures ∙ ap (λ zs. get_or zs c.in-Some.at l) (sym c.deref.ensures.value) in
    let best = best_is s job w p allocs c.deref.result.now (option_map (λ r. r.now) c.fresh-gone.result) c.name.inside.group nodes
    (c.deref.ensures.value ∙ c.requires) gone (ap (λ (z : WantedName). z.group) c.name.view_is) c.in-Some.at l c.in-Some.ensures here in
    let stopped = c.in_ok-stop.ensures.part ∙ ap (λ o. with_stop o p) c.live-old.ensures in
    let place : AcceptedPlace = record { group = c.name.inside.group.name; index = c.name.inside.index; node = l.node.number; size = c.name.inside.group.size } in
    let named : place ≡ place_on w l.node = ap (λ z. place_on z l.node) c.name.view_is in
    let part : part_of c.add_place.new.plan ≡ with_place w l.node (with_stop (live_of_name s job w) p) = λ i. record {
      stops = (c.in_ok-add_place.ensures.stops ∙ ap (λ (q : PlanPart). q.stops) stopped) i;
      places = (c.in_ok-add_place.ensures.places ∙ (λ j. (stopped j).places ++ named j ∷ [])) i;
    } in
    inr (l.node, best, part)

pub returns-clause-loads : goal.returns-clause-loads
returns-clause-loads c =
    let s = c.args.state.now in
    let job = c.args.job.now in
    let w = c.args.name.now in
    let p = part_of c.args.plan.now in
    let l = c.index.result.now in
    let nodes = subst (λ (rows : List Node). T (is_rising nat_cmp node_number rows)) c.node_table.ensures.rows c.ranges-2.ensures.rising in
    let allocs = subst (λ (rows : List Allocation). T (is_rising alloc_cmp alloc_id rows)) c.alloc_table.ensures.rows c.ranges-3.ensures.rising in
    let gone = c.fresh-gone.ensures ∙ (λ i. fresh (c.as_slice.ensures i) (c.live-old.ensures i)) in
    let here : l ≡ get_or c.deref.result.now c.in-Some.at l = c.index.ensures ∙ ap (λ zs. get_or zs c.in-Some.at l) (sym c.deref.ensures.value) in
    let best = best_is s job w p allocs c.deref.result.now (option_map (λ r. r.now) c.fresh-gone.result) c.name.inside.group nodes
    (c.deref.ensures.value ∙ c.requires) gone (ap (λ (z : WantedName). z.group) c.name.view_is) c.in-Some.at l c.in-Some.ensures here in
    let stopped = c.in_ok-stop.ensures.part ∙ ap (λ o. with_stop o p) c.live-old.ensures in
    let place : AcceptedPlace = record { group = c.name.inside.group.name; index = c.name.inside.index; node = l.node.number; size = c.name.inside.group.size } in
    let named : place ≡ place_on w l.node = ap (λ z. place_on z l.node) c.name.view_is in
    let part : part_of c.add_place.new.plan ≡ with_place w l.node (with_stop (live_of_name s job w) p) = λ i. record {
      stops = (c.in_ok-add_place.ensures.stops ∙ ap (λ (q : PlanPart). q.stops) stopped) i;
      places = (c.in_ok-add_place.ensures.places ∙ (λ j. (stopped j).places ++ named j ∷ [])) i;
    } in
    let fit = subst (AllByRecursion NodeFits) c.node_table.ensures.rows c.ranges-2.ensures.fit in
    let room = best_has_room s (claimed_by s job (with_stop (live_of_name s job w) p)) w l.node fit best in
    c.in_ok-add_place.ensures.loads
    ∙ ap (map (with_load place)) (c.in_ok-stop.ensures.loads ∙ (λ i. map (load_less (fresh p.stops (c.live-old.ensures i))) (c.requires i)) ∙ loads_without s job w p allocs)
    ∙ (λ i. map (with_load (named i)) (map (load_of (claimed_by s job (with_stop (live_of_name s job w) p))) s.nodes))
    ∙ loads_more s job (with_stop (live_of_name s job w) p) (place_on w l.node) s.nodes room
    ∙ ap (λ q. map (load_of (claimed_by s job q)) s.nodes) (sym part)
