use Rattle.std.proofs.Common.{string_bytes}
use Rattle.group_model.specs.Worlds.{Deliver}
use Rattle.sim_scenario.specs.Steps.{AnEvent}
use Rattle.sim_expand.proofs.Delivering.{delivery_no_flow, one_delivery}
use Rattle.sim_expand.proofs.Taking.{and_so, if_step_stops, may_stand}
use Rattle.sim_expand.proofs.expanding.Taken.arrive.Goals as goal

pub deliver_line-requires : goal.deliver_line-requires
deliver_line-requires c = c.requires.sent.0

pub line-requires-clause-may_stand : goal.line-requires-clause-may_stand
line-requires-clause-may_stand c =
    rw c.as_str.ensures.value (may_stand c.args.self.now.behind (string_bytes c.in_ok-line.line) (delivery_no_flow _ (string_bytes c.in_ok-line.line) c.in_ok-line.ensures))

pub returns-clause-ok : goal.returns-clause-ok
returns-clause-ok c =
    and_so c.line.result c.line.ensures.ok (λ these. one_delivery c.args.self.now c.line.new.self c.args.message (string_bytes c.in_ok-line.line) c.requires.stands c.requires.sent c.in_ok-line.ensures (rw c.as_str.ensures.value at these))

pub returns-clause-refused : goal.returns-clause-refused
returns-clause-refused c = if_step_stops c.line.result (string_bytes c.in_ok-line.line) c.args.self.now (AnEvent (Deliver _), c.in_ok-line.ensures) (rw c.as_str.ensures.value at c.line.ensures.refused)
