use Rattle.std.proofs.Common.{◌≡◌, sym, ap, ◌∙◌}
use Rattle.fsm_model.specs.Words.{State}
use Rattle.fsm_model.specs.Effect.{altered, told_all, owns, is_ended_by}
use Rattle.fsm_state.proofs.StopLaws.{told_is, told_jobs}
use Rattle.fsm_state.proofs.Retold.{retold, touched_both}
use Rattle.fsm_state.proofs.cluster.Cluster.report.Goals as goal

pub create_evaluations-requires : goal.create_evaluations-requires
create_evaluations-requires c =
    let s = c.args.self.now in
    let e : c.apply_reports.new.self ≡ altered (told_all c.args.node c.args.reports.now) s = c.in_ok-names.ensures.state ∙ told_is c.args.node c.args.reports.now s (record { nodes = c.ranges-2.ensures.tables.nodes.rising; allocs = c.ranges-2.ensures.tables.allocs.rising }) in
    c.requires ∙ sym (ap (λ (t : State). t.count) e)

pub returns : goal.returns
returns c =
    let s = c.args.self.now in
    let n = c.args.node in
    let rs = c.args.reports.now in
    let e : c.apply_reports.new.self ≡ altered (told_all n rs) s = c.in_ok-names.ensures.state ∙ told_is n rs s (record { nodes = c.ranges-2.ensures.tables.nodes.rising; allocs = c.ranges-2.ensures.tables.allocs.rising }) in
    retold c.create_evaluations.result c.create_evaluations.new.self _ _
    (touched_both (owns (is_ended_by (told_all n rs)) s.allocs) _ _ _ (λ j. told_jobs n rs s (record { nodes = c.ranges-2.ensures.tables.nodes.rising; allocs = c.ranges-2.ensures.tables.allocs.rising }) j ∙ sym (c.in_ok-names.ensures.names j.name)) e)
    c.create_evaluations.ensures
