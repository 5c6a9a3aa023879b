use Rattle.fsm_state.proofs.StepLaws.{draining_node}
use Rattle.fsm_state.proofs.Retold.{retold}
use Rattle.fsm_state.proofs.cluster.Cluster.drain_node.Goals as goal

pub returns-clause-ok : goal.returns-clause-ok
returns-clause-ok c =
    let s = c.args.self.now in
    retold c.set_draining.result c.set_draining.new.self _ _ (λ i. record s { nodes = draining_node c.args.number c.args.force s.nodes c.ranges-2.ensures.tables.nodes.rising i }) c.set_draining.ensures.ok
