use Rattle.std.proofs.Common.{◌≡◌, None, OnOk, arith, codes, false, refl, subst, sym, true}
use Rattle.sim_scenario.specs.Steps.{Flow}
use Rattle.sim_expand.specs.Inner.Taking.{TakesUpTo, most_in_flow}
use Rattle.sim_expand.proofs.Delivering.{delivers_some}
use Rattle.sim_expand.proofs.Taking.{and_so, if_step_stops, none_more, one_line, up_to_more}
use Rattle.sim_expand.proofs.expanding.Taken.flow.Goals as goal

pub returns-then-len-eq0-clause-ok : goal.returns-then-len-eq0-clause-ok
returns-then-len-eq0-clause-ok c = up_to_more 0 (most_in_flow c.args.self.now.behind) c.args.self.now c.args.self.now (omega arith) (none_more c.args.self.now c.requires)

pub returns-then-self-clause-ok : goal.returns-then-self-clause-ok
returns-then-self-clause-ok c =
    let behind : c.args.self.now.behind ≡ true = c.if-self.true in
    subst (λ b. OnOk c.deliver.result (TakesUpTo (most_in_flow b) c.args.self.now c.deliver.new.self)) (sym behind)
    (and_so c.deliver.result c.deliver.ensures.ok (delivers_some 500 c.args.self.now c.deliver.new.self behind))

pub returns-then-self-clause-refused : goal.returns-then-self-clause-refused
returns-then-self-clause-refused c = rw c.if-self.true c.deliver.ensures.refused

pub line-requires-clause-may_stand : goal.line-requires-clause-may_stand
line-requires-clause-may_stand c = rw c.if-self.false tt

pub returns-clause-ok : goal.returns-clause-ok
returns-clause-ok c =
    let before : c.args.self.now.behind ≡ false = c.if-self.false in
    subst (λ b. OnOk c.line.result (TakesUpTo (most_in_flow b) c.args.self.now c.line.new.self)) (sym before)
    (and_so c.line.result c.line.ensures.ok (one_line c.args.self.now c.line.new.self (codes "flow") (rw before tt)))

pub returns-clause-refused : goal.returns-clause-refused
returns-clause-refused c = rw c.if-self.false (if_step_stops c.line.result (codes "flow") c.args.self.now (Flow None, refl) c.line.ensures.refused)
