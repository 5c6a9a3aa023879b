use Rattle.std.proofs.Common.{◌≡◌, Err, rules}
use Rattle.sim_expand.specs.Counts.{most_at_once}
use Rattle.sim_expand.specs.Inner.Taking.{most_in_flow}
use Rattle.sim_expand.proofs.Times.{flow_at_once}
use Rattle.sim_expand.proofs.Taking.{none_more, stops_with_more, up_to_more}
use Rattle.sim_expand.proofs.expanding.Taken.round.Goals as goal

pub returns-then-standing-clause-ok : goal.returns-then-standing-clause-ok
returns-then-standing-clause-ok c =
    let behind = c.args.self.now.behind in
    up_to_more (most_in_flow behind) (most_at_once behind) c.args.self.now c.flow.new.self (flow_at_once behind) c.in_ok-flow.ensures.ok

pub returns-in_err-flow-clause-refused : goal.returns-in_err-flow-clause-refused
returns-in_err-flow-clause-refused c =
    let behind = c.args.self.now.behind in
    let same : c.from_residual.result ≡ Err c.in_err-flow.field-0.0 = search rules in
    rw same (stops_with_more (most_in_flow behind) (most_at_once behind) c.args.self.now c.in_err-flow.field-0.0 (flow_at_once behind) c.in_err-flow.ensures.refused)

pub returns-in_default-clause-ok : goal.returns-in_default-clause-ok
returns-in_default-clause-ok c = none_more c.args.self.now c.requires
