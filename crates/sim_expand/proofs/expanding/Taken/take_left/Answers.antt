use Rattle.std.proofs.Common.{[]}
use Rattle.std.proofs.lemmas.List.Elements.{All-cons, All-nil}
use Rattle.sim_expand.specs.Inner.Taking.{IsNoFlowLine}
use Rattle.sim_expand.proofs.expanding.Taken.take_left.Goals as goal

pub go-requires-clause-steps : goal.go-requires-clause-steps
go-requires-clause-steps c = All-cons IsNoFlowLine _ [] c.in_ok-work_line-in-Work.ensures (All-nil IsNoFlowLine)

pub go-requires-in-Plan-clause-steps : goal.go-requires-in-Plan-clause-steps
go-requires-in-Plan-clause-steps c = All-cons IsNoFlowLine _ [] c.in_ok-plan_line-in-Plan.ensures (All-nil IsNoFlowLine)

pub go-requires-in-Beat-clause-steps : goal.go-requires-in-Beat-clause-steps
go-requires-in-Beat-clause-steps c = All-cons IsNoFlowLine _ [] c.in_ok-beat_line-in-Beat.ensures (All-nil IsNoFlowLine)

pub go-requires-in-Take-clause-steps : goal.go-requires-in-Take-clause-steps
go-requires-in-Take-clause-steps c = All-cons IsNoFlowLine _ [] c.in_ok-take_line-in-Take.ensures (All-nil IsNoFlowLine)

pub go-requires-in-Pull-clause-steps : goal.go-requires-in-Pull-clause-steps
go-requires-in-Pull-clause-steps c = rw c.deref.ensures.value c.in_ok-lines-in-Pull.ensures.steps
