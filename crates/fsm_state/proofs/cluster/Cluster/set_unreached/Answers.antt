use Rattle.std.proofs.Common.{map, ap, ◌∙◌}
use Rattle.fsm_model.specs.Words.{State}
use Rattle.fsm_model.specs.Effect.{left_as}
use Rattle.fsm_state.proofs.StepLaws.{marked_node}
use Rattle.fsm_state.proofs.Retold.{retold}
use Rattle.fsm_state.proofs.cluster.Cluster.set_unreached.Goals as goal

pub returns : goal.returns
returns c =
    let s = c.args.self.now in
    let n = c.args.number in
    let client = c.args.client in
    retold c.leave.result c.leave.new.self _ _
    (ap (λ (z : State). record z { allocs = map (left_as client n) z.allocs }) c.in_ok-set_status.ensures
    ∙ (λ i. record s { nodes = marked_node c.args.status n s.nodes c.ranges-2.ensures.tables.nodes.rising i; allocs = map (left_as client n) s.allocs }))
    c.leave.ensures
