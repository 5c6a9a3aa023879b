use Rattle.std.proofs.Common.{◌≡◌, sym, ap, ◌∙◌}
use Rattle.fsm_model.specs.Words.{State}
use Rattle.fsm_model.specs.Effect.{altered, stop, with_plan_places}
use Rattle.fsm_state.specs.Inner.Steps.{stopped_all}
use Rattle.fsm_state.proofs.StopLaws.{stopped_is}
use Rattle.fsm_state.proofs.Retold.{retold}
use Rattle.fsm_state.proofs.cluster.Cluster.plan.Goals as goal

pub place_all-requires : goal.place_all-requires
place_all-requires c =
    let s = c.args.self.now in
    let p = c.args.plan.now in
    let e : c.stop_all.new.self ≡ altered (stop p.stops) s = c.in_ok-stop_all.ensures ∙ ap (λ ids. stopped_all ids s) c.as_slice.ensures.items ∙ stopped_is p.stops s (record { nodes = c.ranges-2.ensures.tables.nodes.rising; allocs = c.ranges-2.ensures.tables.allocs.rising }) in
    c.requires ∙ sym (ap (λ (t : State). t.count) e)

pub returns : goal.returns
returns c =
    let s = c.args.self.now in
    let p = c.args.plan.now in
    let e : c.stop_all.new.self ≡ altered (stop p.stops) s = c.in_ok-stop_all.ensures ∙ ap (λ ids. stopped_all ids s) c.as_slice.ensures.items ∙ stopped_is p.stops s (record { nodes = c.ranges-2.ensures.tables.nodes.rising; allocs = c.ranges-2.ensures.tables.allocs.rising }) in
    retold c.place_all.result c.place_all.new.self _ _ (ap (with_plan_places p) e) c.place_all.ensures
