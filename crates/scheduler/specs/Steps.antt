-- A worker's step of the code as the group's words have it; and which steps make a plan.
use Rattle.std.specs.Prelude.{ℕ, Bool, false, not, ◌&&◌, nat_lt, is_some, Option, Some, None}
use Rattle.rows.specs.declared.token.Delivery.{Delivery}
use Rattle.rows.specs.declared.worker.WorkerResponse.{WorkerResponse}
use Rattle.rows.specs.declared.worker.WorkerResponse.TheVariants.{Delivered, PlanResult, Refused}
use Rattle.fsm_model.specs.Words.{State, eval_of}
use Rattle.group_model.specs.NextStep as steps
use Rattle.group_model.specs.NextStep.{MOST_PLANS}
use Rattle.scheduler.specs.declared.worker_step.WorkerStep.{WorkerStep}
use Rattle.scheduler.specs.declared.worker_step.WorkerStep.TheVariants as next

abbrev pub step_as : WorkerStep → steps.WorkerStep
step_as next.Later = steps.Later
step_as next.Drop = steps.Drop
step_as (next.Ask request) = steps.Ask request

-- with a delivery: the state is new enough, the evaluation has a row, and another plan is allowed
abbrev pub plans_on : State → ℕ → ℕ → Delivery → Bool
plans_on s index plans d =
    not (nat_lt index d.wait) && is_some (eval_of d.eval s) && nat_lt plans MOST_PLANS

abbrev pub plans_if_any : State → ℕ → ℕ → Option Delivery → Bool
plans_if_any s index plans None = false
plans_if_any s index plans (Some d) = plans_on s index plans d

-- the next step with what was answered makes a plan; after a refusal none does
abbrev pub makes_plan : State → ℕ → WorkerResponse → ℕ → Bool
makes_plan s index (Delivered what) plans = plans_if_any s index plans what
makes_plan s index (PlanResult r) plans =
    plans_on s index plans (record { eval = r.eval; token = r.token; wait = r.last })
makes_plan s index (Refused asked reason) plans = false
