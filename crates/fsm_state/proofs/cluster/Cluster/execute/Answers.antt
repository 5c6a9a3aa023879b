use Rattle.std.proofs.Common.{sym, ap, ◌∙◌}
use Rattle.fsm_model.specs.Effect.{applied, reported}
use Rattle.fsm_state.proofs.Retold.{retold}
use Rattle.fsm_state.proofs.cluster.Cluster.execute.Goals as goal

pub returns-in-Report-clause-ok : goal.returns-in-Report-clause-ok
returns-in-Report-clause-ok c =
    retold c.report.result c.report.new.self _ _
    ((λ i. reported c.in-Report.node (c.as_slice-in-Report.ensures.items i) (c.advance-entry.ensures.state i)) ∙ ap (applied c.args.self.now) (sym c.in-Report.is))
    c.report.ensures
