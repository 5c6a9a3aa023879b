use Rattle.fsm_state.proofs.StepLaws.{changed_status}
use Rattle.fsm_state.proofs.Retold.{retold}
use Rattle.fsm_state.proofs.cluster.Cluster.eval_status.Goals as goal

pub returns-clause-ok : goal.returns-clause-ok
returns-clause-ok c =
    let s = c.args.self.now in
    retold c.set_eval_status.result c.set_eval_status.new.self _ _ (λ i. record s { evals = changed_status c.args.id c.args.change.now s.evals c.ranges-2.ensures.tables.evals.rising i }) c.set_eval_status.ensures.ok
