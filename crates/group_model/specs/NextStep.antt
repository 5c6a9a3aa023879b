-- What a scheduling worker does next with what its server was answered. (Nomad documentation,
-- "Scheduling in Nomad": workers dequeue evaluations, submit plans, and acknowledge or give back.)
use Rattle.std.specs.Prelude.{◌≡◌, ◌⊎◌, ℕ, Bool, true, false, ◌||◌, if◌then◌else◌, nat_lt, nat_le, Option, Some, None, length}
use Rattle.rows.specs.declared.evaluation.Evaluation.{Evaluation}
use Rattle.rows.specs.declared.token.Delivery.{Delivery}
use Rattle.rows.specs.declared.plan.Plan.{Plan}
use Rattle.rows.specs.declared.reason.Reason.{Reason}
use Rattle.rows.specs.declared.reason.Reason.TheVariants.{SnapshotTooOld, JobChanged, UnknownJob, QueueFull, JobStopped}
use Rattle.rows.specs.declared.worker.EvalOutcome.{EvalOutcome}
use Rattle.rows.specs.declared.worker.EvalOutcome.TheVariants.{Complete, Blocked}
use Rattle.rows.specs.declared.worker.WorkerRequest.{WorkerRequest}
use Rattle.rows.specs.declared.worker.WorkerRequest.TheVariants.{Submit, Finish, Nack}
use Rattle.rows.specs.declared.worker.AskedRequest.{AskedRequest}
use Rattle.rows.specs.declared.worker.AskedRequest.TheVariants as asked
use Rattle.rows.specs.declared.worker.WorkerResponse.{WorkerResponse}
use Rattle.rows.specs.declared.worker.WorkerResponse.TheVariants.{Delivered, PlanResult, Refused}
use Rattle.fsm_model.specs.Words.{State, eval_of}
use Rattle.group_model.specs.Scheduling.{WorkerPlan, IsPlanFor}

pub data WorkerStep : Type 0 where
  -- not yet: the state is older than what the leader answered from
  Later : WorkerStep
  -- nothing
  Drop : WorkerStep
  -- to ask the leader
  Ask : (request : WorkerRequest) → WorkerStep

-- ---- after a refusal, of which no index and no row is asked

-- a plan refused for this may succeed from a later state, or does not matter any more: the
-- evaluation is given back
abbrev pub gives_back : Reason → Bool
gives_back SnapshotTooOld = true
gives_back JobChanged = true
gives_back UnknownJob = true
gives_back QueueFull = true
gives_back JobStopped = true
gives_back _ = false

abbrev pub after_refusal : AskedRequest → Reason → WorkerStep
after_refusal (asked.Submit eval token) reason =
    if gives_back reason then Ask (Nack eval token) else Drop
after_refusal _ reason = Drop

-- ---- with an evaluation to work on

-- the most plans that are submitted under one delivery
abbrev pub MOST_PLANS : ℕ
MOST_PLANS = 16

-- the plan as the leader is sent it
abbrev pub submitted_plan : Delivery → Evaluation → WorkerPlan → Plan
submitted_plan d e p = record {
  eval = d.eval;
  token = d.token;
  job = e.job;
  version = p.version;
  snapshot = p.snapshot;
  stops = p.stops;
  places = p.places;
}

-- something stops, or is placed
abbrev pub has_changes : WorkerPlan → Bool
has_changes p = nat_lt 0 (length p.stops) || nat_lt 0 (length p.places)

abbrev pub outcome_of : WorkerPlan → EvalOutcome
outcome_of p = if p.all_placed then Complete else Blocked p.snapshot

-- what the plan comes to
abbrev pub after_plan : Delivery → Evaluation → WorkerPlan → WorkerStep
after_plan d e p =
    if has_changes p
    then Ask (Submit (submitted_plan d e p))
    else Ask (Finish d.eval d.token (outcome_of p))

-- after so many plans under this delivery: given back where there were 16; else by a plan
abbrev pub IsStepWith : State → ℕ → ℕ → Delivery → Evaluation → WorkerStep → Type 0
IsStepWith s index plans d e step =
    ((nat_le MOST_PLANS plans ≡ true) × (step ≡ Ask (Nack d.eval d.token)))
    ⊎ ((nat_le MOST_PLANS plans ≡ false)
    × ((p : WorkerPlan) × IsPlanFor s e index p × (step ≡ after_plan d e p)))

abbrev pub IsStepWithRow : State → ℕ → ℕ → Delivery → Option Evaluation → WorkerStep → Type 0
IsStepWithRow s index plans d None step = step ≡ Drop
IsStepWithRow s index plans d (Some e) step = IsStepWith s index plans d e step

-- first the state has to be new enough; then the evaluation must have a row
abbrev pub IsStepOn : State → ℕ → ℕ → Delivery → WorkerStep → Type 0
IsStepOn s index plans d step =
    ((nat_lt index d.wait ≡ true) × (step ≡ Later))
    ⊎ ((nat_lt index d.wait ≡ false) × IsStepWithRow s index plans d (eval_of d.eval s) step)

-- ---- the whole

abbrev pub IsStepOnDelivery : State → ℕ → ℕ → Option Delivery → WorkerStep → Type 0
IsStepOnDelivery s index plans None step = step ≡ Drop
IsStepOnDelivery s index plans (Some d) step = IsStepOn s index plans d step

-- The step with what was answered, at the state of this index, after so many plans under the same
-- delivery. After a plan's result the state must have the leader's last index by then.
abbrev pub IsNextStep : State → ℕ → WorkerResponse → ℕ → WorkerStep → Type 0
IsNextStep s index (Delivered what) plans step = IsStepOnDelivery s index plans what step
IsNextStep s index (PlanResult r) plans step =
    IsStepOn s index plans (record { eval = r.eval; token = r.token; wait = r.last }) step
IsNextStep s index (Refused asked reason) plans step = step ≡ after_refusal asked reason
