use Rattle.sim_expand.proofs.Delivering.{flow_behind, line_before, line_behind}
use Rattle.sim_expand.proofs.Flows.{most_before, most_of_flow, most_of_other}
use Rattle.sim_expand.proofs.Taking.{and_so, if_flow_stops, if_line_stops}
use Rattle.sim_expand.proofs.expanding.Taken.plain.Goals as goal

pub line-requires-clause-may_stand : goal.line-requires-clause-may_stand
line-requires-clause-may_stand c = rw c.if-not-self.true tt

pub returns-then-not-self-clause-ok : goal.returns-then-not-self-clause-ok
returns-then-not-self-clause-ok c = and_so c.line.result c.line.ensures.ok (line_before c.args.self.now c.line.new.self c.args.line.now c.if-not-self.true)

pub returns-then-not-self-clause-refused : goal.returns-then-not-self-clause-refused
returns-then-not-self-clause-refused c = if_line_stops c.line.result c.args.line.now c.args.self.now (λ most. most_before c.args.self.now.behind c.args.line.now most c.if-not-self.true) c.line.ensures.refused

pub returns-in-Some-clause-ok : goal.returns-in-Some-clause-ok
returns-in-Some-clause-ok c =
    and_so c.deliver.result c.deliver.ensures.ok (flow_behind c.args.self.now c.deliver.new.self c.args.line.now c.in-Some.most c.if-not-self.false c.in-Some.ensures)

pub returns-in-Some-clause-refused : goal.returns-in-Some-clause-refused
returns-in-Some-clause-refused c =
    if_flow_stops c.deliver.result c.args.line.now c.in-Some.most c.args.self.now (λ most. most_of_flow c.args.self.now.behind c.args.line.now c.in-Some.most most c.if-not-self.false c.in-Some.ensures) c.deliver.ensures.refused

pub line-requires-in-None-clause-may_stand : goal.line-requires-in-None-clause-may_stand
line-requires-in-None-clause-may_stand c = rw c.if-not-self.false c.in-None.ensures

pub returns-in-None-clause-ok : goal.returns-in-None-clause-ok
returns-in-None-clause-ok c = and_so c.line-in-None.result c.line-in-None.ensures.ok (line_behind c.args.self.now c.line-in-None.new.self c.args.line.now c.if-not-self.false c.in-None.ensures)

pub returns-in-None-clause-refused : goal.returns-in-None-clause-refused
returns-in-None-clause-refused c = if_line_stops c.line-in-None.result c.args.line.now c.args.self.now (λ most. most_of_other c.args.self.now.behind c.args.line.now most c.if-not-self.false c.in-None.ensures) c.line-in-None.ensures.refused
