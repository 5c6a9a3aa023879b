use Rattle.fsm_model.specs.Effect.{with_evals}
use Rattle.fsm_state.specs.Inner.Steps.{is_named_in}
use Rattle.fsm_state.proofs.Touching.{jobs_are, few_at}
use Rattle.fsm_state.proofs.Retold.{retold}
use Rattle.fsm_state.proofs.cluster.Cluster.create_evaluations.Goals as goal

pub create_each-requires-clause-few : goal.create_each-requires-clause-few
create_each-requires-clause-few c =
    let jobs = c.ranges-2.ensures.tables.jobs in
    let s = c.args.self.now in
    (few_at (is_named_in c.args.names.now) s.jobs _ (jobs_are c.args.names.now s.jobs jobs.rising c.len-count.ensures.ordered) jobs.few).1

pub returns : goal.returns
returns c =
    let s = c.args.self.now in
    let are = jobs_are c.args.names.now s.jobs c.ranges-2.ensures.tables.jobs.rising c.len-count.ensures.ordered in
    retold c.create_each.result c.create_each.new.self _ _ (λ i. record s { evals = with_evals s.count 0 (are i) s.evals }) c.create_each.ensures
