use Rattle.fsm_state.proofs.StepLaws.{drained_node}
use Rattle.fsm_state.proofs.Retold.{retold}
use Rattle.fsm_state.proofs.cluster.Cluster.drain_done.Goals as goal

pub returns-clause-ok : goal.returns-clause-ok
returns-clause-ok c =
    let s = c.args.self.now in
    retold c.set_drained.result c.set_drained.new.self _ _ (λ i. record s { nodes = drained_node c.args.number s.nodes c.ranges-2.ensures.tables.nodes.rising i }) c.set_drained.ensures.ok
