use Rattle.std.proofs.Common.{◌∙◌}
use Rattle.sim_inspect.proofs.Reports.{state_is}
use Rattle.sim_inspect.proofs.gathering.state_of.Goals as goal

pub returns-in-Some : goal.returns-in-Some
returns-in-Some c =
    state_is c.state_report.result c.args.server.now c.in-Some.state.now c.in_ok-servers.servers c.args.standing.now.servers.items
    (λ s is. (c.in-Some.ensures s is).1) (c.in_ok-servers.ensures ∙ c.deref.ensures.value) c.state_report.ensures.state c.state_report.ensures.servers
