use Rattle.std.proofs.Common.{sym, ◌∙◌}
use Rattle.fsm_tables.specs.Lookups.{lives_on}
use Rattle.fsm_model.specs.Effect.{owns}
use Rattle.fsm_state.proofs.Touching.{owners_listed}
use Rattle.fsm_state.proofs.Retold.{retold, touched_both}
use Rattle.fsm_state.proofs.cluster.Cluster.take_down.Goals as goal

pub returns : goal.returns
returns c =
    let s = c.args.self.now in
    let n = c.args.number in
    retold c.create_evaluations.result c.create_evaluations.new.self _ _
    (touched_both (owns (lives_on n) s.allocs) _ _ _ (λ j. sym (c.in_ok-names.ensures j.name ∙ owners_listed (lives_on n) s.allocs j)) c.in_ok-set_unreached.ensures)
    c.create_evaluations.ensures
