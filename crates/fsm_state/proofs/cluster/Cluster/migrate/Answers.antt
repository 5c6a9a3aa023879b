use Rattle.std.proofs.Common.{◌≡◌, map, sym, ap, ◌∙◌}
use Rattle.fsm_model.specs.Words.{State}
use Rattle.fsm_model.specs.Effect.{with_migrate_mark, owns, moves}
use Rattle.fsm_state.proofs.StopLaws.{marked_is, moved_jobs}
use Rattle.fsm_state.proofs.Retold.{retold, touched_both}
use Rattle.fsm_state.proofs.cluster.Cluster.migrate.Goals as goal

pub create_evaluations-requires : goal.create_evaluations-requires
create_evaluations-requires c =
    let s = c.args.self.now in
    let ids = c.args.ids.now in
    let e : c.mark_all.new.self ≡ record s { allocs = map (with_migrate_mark ids) s.allocs } = c.in_ok-mark_all.ensures ∙ marked_is ids s (record { nodes = c.ranges-2.ensures.tables.nodes.rising; allocs = c.ranges-2.ensures.tables.allocs.rising }) in
    c.requires ∙ sym (ap (λ (t : State). t.count) e)

pub returns : goal.returns
returns c =
    let s = c.args.self.now in
    let ids = c.args.ids.now in
    let t = record s { allocs = map (with_migrate_mark ids) s.allocs } in
    let e : c.mark_all.new.self ≡ t = c.in_ok-mark_all.ensures ∙ marked_is ids s (record { nodes = c.ranges-2.ensures.tables.nodes.rising; allocs = c.ranges-2.ensures.tables.allocs.rising }) in
    retold c.create_evaluations.result c.create_evaluations.new.self _ _
    (touched_both (owns (moves ids) s.allocs) _ _ _ (λ j. moved_jobs ids s (record { nodes = c.ranges-2.ensures.tables.nodes.rising; allocs = c.ranges-2.ensures.tables.allocs.rising }) j ∙ sym (c.in_ok-names.ensures j.name)) e)
    c.create_evaluations.ensures
