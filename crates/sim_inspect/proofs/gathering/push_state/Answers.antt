use Rattle.std.proofs.Common.{inr}
use Rattle.sim_inspect.proofs.gathering.push_state.Goals as goal

pub returns-in_ok-push-in-Some : goal.returns-in_ok-push-in-Some
returns-in_ok-push-in-Some c = inr (c.in-Some.report, rw c.in-Some.is at c.in_ok-report.ensures, c.in_ok-push-in-Some.ensures.items)
