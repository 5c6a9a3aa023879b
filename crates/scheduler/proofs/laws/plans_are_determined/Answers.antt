use Rattle.scheduler.proofs.Determined.{one_plan, one_step}
use Rattle.scheduler.proofs.laws.plans_are_determined.Goals as goal

pub returns-clause-plan : goal.returns-clause-plan
returns-clause-plan c = one_plan

pub returns-clause-step : goal.returns-clause-step
returns-clause-step c = one_step
