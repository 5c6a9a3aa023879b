-- What waits for a server's workers, and how many plans they submitted under each delivery of an
-- evaluation.
use Rattle.std.specs.Prelude.{◌≡◌, ◌≢◌, ℕ, ◌+◌, ◌-◌, ◌^◌, min, if◌then◌else◌, Some, None, List, [], ◌∷◌}
use Rattle.std.specs.declared.cmp.Ordering.{Ordering}
use Rattle.std.specs.Ordering.{is_eq, nat_cmp, ordering_then}
use Rattle.rows.specs.declared.evaluation.EvalId.{EvalId}
use Rattle.rows.specs.declared.token.Token.{Token}
use Rattle.rows.specs.declared.worker.Work.{Work}
use Rattle.rows.specs.declared.worker.WorkerRequest.{WorkerRequest}
use Rattle.rows.specs.declared.worker.WorkerRequest.TheVariants as requests
use Rattle.rows.specs.declared.worker.WorkerResponse.{WorkerResponse}
use Rattle.rows.specs.declared.worker.WorkerResponse.TheVariants.{Delivered, PlanResult, Refused}
use Rattle.rows.specs.Keys.{eval_cmp}
use Rattle.group_model.specs.NextStep as steps
use Rattle.workers.specs.declared.plan_counts.Lease.{Lease}

-- what waits, the oldest first; and how many plans were submitted under each delivery
pub record WorkersView : Type 0 where
  pub waiting : List Work
  pub plans : List (Lease × ℕ)

-- ---- deliveries and their counts

-- the delivery of this evaluation under this token
abbrev pub lease_of : EvalId → Token → Lease
lease_of eval token = record { eval = eval; term = token.term; serial = token.serial }

-- by the evaluation, then by the term, and then by the serial
abbrev pub lease_cmp : Lease → Lease → Ordering
lease_cmp a b =
    ordering_then (eval_cmp a.eval b.eval) (ordering_then (nat_cmp a.term b.term) (nat_cmp a.serial b.serial))

-- how many plans are counted under a delivery: none where it has no count
abbrev pub count_of : Lease → List (Lease × ℕ) → ℕ
count_of lease [] = 0
count_of lease (x ∷ xs) = if is_eq (lease_cmp lease x.0) then x.1 else count_of lease xs

-- how many are counted under the delivery with which a worker goes on after this response: none
-- where it goes on with no delivery
abbrev pub plans_under : WorkerResponse → List (Lease × ℕ) → ℕ
plans_under (Delivered (Some d)) plans = count_of (lease_of d.eval d.token) plans
plans_under (Delivered None) plans = 0
plans_under (PlanResult r) plans = count_of (lease_of r.eval r.token) plans
plans_under (Refused asked reason) plans = 0

-- ---- what is counted

-- one plan more is counted under this delivery, as far as 64 bits count, and as many as before
-- under each other
pub record CountsOneMore (lease : Lease) (old new : List (Lease × ℕ)) : Type 0 where
  pub own : count_of lease new ≡ min (count_of lease old + 1) (2 ^ 64 - 1)
  pub others : (other : Lease) → other ≢ lease → count_of other new ≡ count_of other old

-- a plan that is submitted is counted under its delivery, and nothing else is
abbrev pub CountsRequest : WorkerRequest → List (Lease × ℕ) → List (Lease × ℕ) → Type 0
CountsRequest requests.Take old new = new ≡ old
CountsRequest (requests.Submit plan) old new = CountsOneMore (lease_of plan.eval plan.token) old new
CountsRequest (requests.Finish eval token outcome) old new = new ≡ old
CountsRequest (requests.Nack eval token) old new = new ≡ old

-- what a worker's step does to the counts
abbrev pub CountsStep : steps.WorkerStep → List (Lease × ℕ) → List (Lease × ℕ) → Type 0
CountsStep steps.Later old new = new ≡ old
CountsStep steps.Drop old new = new ≡ old
CountsStep (steps.Ask request) old new = CountsRequest request old new

-- ---- where memory may be wanting

-- to count the first plan under a delivery
abbrev pub RequestMayEndOutOfMemory : WorkerRequest → List (Lease × ℕ) → Type 0
RequestMayEndOutOfMemory (requests.Submit plan) plans = count_of (lease_of plan.eval plan.token) plans ≡ 0
RequestMayEndOutOfMemory _ plans = ⊥

-- to let the work wait again, or to count the first plan under a delivery
abbrev pub StepMayEndOutOfMemory : steps.WorkerStep → List (Lease × ℕ) → Type 0
StepMayEndOutOfMemory steps.Later plans = Unit {0}
StepMayEndOutOfMemory steps.Drop plans = ⊥
StepMayEndOutOfMemory (steps.Ask request) plans = RequestMayEndOutOfMemory request plans
