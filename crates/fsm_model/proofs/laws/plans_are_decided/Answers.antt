use Rattle.fsm_model.proofs.PlanLaws.{plan_is_safe, safe_is_plan, used_planned}
use Rattle.fsm_model.proofs.AfterLaws.{planned_is_safe, safe_is_planned}
use Rattle.fsm_model.proofs.laws.plans_are_decided.Goals as goal

pub returns-clause-safe : goal.returns-clause-safe
returns-clause-safe c = plan_is_safe

pub returns-clause-needs : goal.returns-clause-needs
returns-clause-needs c = safe_is_plan

pub returns-clause-uses : goal.returns-clause-uses
returns-clause-uses c = used_planned

pub returns-clause-safe_always : goal.returns-clause-safe_always
returns-clause-safe_always c = planned_is_safe

pub returns-clause-needs_always : goal.returns-clause-needs_always
returns-clause-needs_always c = safe_is_planned
