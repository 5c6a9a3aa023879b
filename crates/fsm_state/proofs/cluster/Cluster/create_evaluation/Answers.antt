use Rattle.std.proofs.Common.{◌≡◌, Some, None, sym, ◌∙◌}
use Rattle.fsm_model.specs.Effect.{evaluations_created, is_named}
use Rattle.fsm_state.specs.Inner.Steps.{put_eval, eval_for}
use Rattle.fsm_state.proofs.Touching.{touched_found}
use Rattle.fsm_state.proofs.Retold.{retold}
use Rattle.fsm_state.proofs.cluster.Cluster.create_evaluation.Goals as goal

pub returns-in-Some-clause-ok : goal.returns-in-Some-clause-ok
returns-in-Some-clause-ok c =
    let s = c.args.self.now in
    let name = c.args.name.now in
    let job = c.in-Some.job.now in
    let e : put_eval c.evaluation-eval.result s ≡ evaluations_created (is_named name) s =
    (λ i. put_eval (c.evaluation-eval.ensures i) s)
    ∙ (λ i. put_eval (eval_for (c.requires i) 0 job.name job.priority) s)
    ∙ touched_found name (Some job) s c.ranges-2.ensures.tables.jobs.rising (sym c.in-Some.ensures) in
    retold c.put_eval.result c.put_eval.new.self _ _ e c.put_eval.ensures

pub returns-in-None-clause-ok : goal.returns-in-None-clause-ok
returns-in-None-clause-ok c = touched_found c.args.name.now None c.args.self.now c.ranges-2.ensures.tables.jobs.rising (sym c.in-None.ensures)
