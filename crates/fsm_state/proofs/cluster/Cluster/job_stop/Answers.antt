use Rattle.std.proofs.Common.{ap, ◌∙◌}
use Rattle.fsm_model.specs.Effect.{evaluations_created, is_named}
use Rattle.fsm_state.proofs.StepLaws.{stopped_job}
use Rattle.fsm_model.specs.Words.{job_of}
use Rattle.fsm_state.proofs.InPlace.{on_err, none_changed}
use Rattle.fsm_state.proofs.Retold.{retold}
use Rattle.fsm_state.proofs.cluster.Cluster.job_stop.Goals as goal

pub returns-clause-ok : goal.returns-clause-ok
returns-clause-ok c =
    let s = c.args.self.now in
    let name = c.args.name.now in
    retold c.create_evaluation.result c.create_evaluation.new.self _ _
    (ap (evaluations_created (is_named name)) c.in_ok-stop_job_row.ensures.ok
    ∙ (λ i. evaluations_created (is_named name) (record s { jobs = stopped_job s.count name s.jobs c.ranges-2.ensures.tables.jobs.rising i })))
    c.create_evaluation.ensures.ok

pub returns-clause-memory : goal.returns-clause-memory
returns-clause-memory c =
    let s = c.args.self.now in
    let name = c.args.name.now in
    on_err c.create_evaluation.result _ _ (λ some none. some (ap (job_of name) c.in_ok-stop_job_row.ensures.ok ∙ none_changed _ name s none)) c.create_evaluation.ensures.memory
