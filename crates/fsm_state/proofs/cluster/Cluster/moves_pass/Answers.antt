use Rattle.std.proofs.Common.{sym, ◌∙◌}
use Rattle.fsm_model.specs.Effect.{owns, moves}
use Rattle.fsm_state.proofs.StopLaws.{moved_jobs}
use Rattle.fsm_state.proofs.Admitting.{names_are}
use Rattle.fsm_state.proofs.cluster.Cluster.moves_pass.Goals as goal

pub returns : goal.returns
returns c =
    let s = c.args.self.now in
    let tables = c.ranges-2.ensures.tables in
    c.names_pass.ensures ∙ names_are (owns (moves c.args.ids.now) s.allocs) _ s (λ j. moved_jobs c.args.ids.now s (record { nodes = tables.nodes.rising; allocs = tables.allocs.rising }) j ∙ sym (c.in_ok-names.ensures j.name))
