use Rattle.std.proofs.Common.{sym, ◌∙◌}
use Rattle.fsm_model.specs.Effect.{owns, is_ended_by, told_all}
use Rattle.fsm_state.proofs.Reports.{ended_are}
use Rattle.fsm_state.proofs.Admitting.{names_are}
use Rattle.fsm_state.proofs.cluster.Cluster.reports_pass.Goals as goal

pub returns : goal.returns
returns c =
    let s = c.args.self.now in
    let tables = c.ranges-2.ensures.tables in
    let n = c.args.node in
    let rs = c.args.reports.now in
    c.names_pass.ensures ∙ names_are (owns (is_ended_by (told_all n rs)) s.allocs) _ s (λ j. ended_are n rs s (record { nodes = tables.nodes.rising; allocs = tables.allocs.rising }) j ∙ sym (c.in_ok-names.ensures j.name))
