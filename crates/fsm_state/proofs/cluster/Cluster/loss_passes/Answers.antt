use Rattle.std.proofs.Common.{sym, ◌∙◌}
use Rattle.fsm_tables.specs.Lookups.{lives_on}
use Rattle.fsm_model.specs.Effect.{owns}
use Rattle.fsm_state.proofs.Admitting.{names_are}
use Rattle.fsm_state.proofs.Touching.{owners_listed}
use Rattle.fsm_state.proofs.cluster.Cluster.loss_passes.Goals as goal

pub returns-clause-ok : goal.returns-clause-ok
returns-clause-ok c =
    let s = c.args.self.now in
    let n = c.args.node in
    c.names_pass.ensures ∙ names_are (owns (lives_on n) s.allocs) _ s (λ j. sym (c.in_ok-names.ensures j.name ∙ owners_listed (lives_on n) s.allocs j))
