-- What a worker does next, where one of two asked for lives, and the other fits nowhere.
use Rattle.std.specs.Prelude.{ℕ, Some, None, [], ◌∷◌}
use Rattle.fsm_model.specs.Words.{no_rows}
use Rattle.fsm_model.specs.Worked.Words.{web, eval_id}
use Rattle.rows.specs.declared.reason.Reason.{Reason}
use Rattle.rows.specs.declared.reason.Reason.TheVariants.{SnapshotTooOld, JobChanged, UnknownJob, QueueFull, JobStopped, NotOutstanding, NotLeader}
use Rattle.rows.specs.declared.worker.EvalOutcome.TheVariants.{Complete, Blocked}
use Rattle.rows.specs.declared.worker.WorkerRequest.TheVariants.{Submit, Finish, Nack}
use Rattle.rows.specs.declared.worker.AskedRequest.TheVariants as asked
use Rattle.rows.specs.declared.worker.WorkerResponse.{WorkerResponse}
use Rattle.rows.specs.declared.worker.WorkerResponse.TheVariants.{Delivered, PlanResult, Refused}
use Rattle.group_model.specs.NextStep.{WorkerStep, Later, Drop, Ask, IsNextStep}
use Rattle.group_model.specs.Worked.Words.{token}
use Rattle.group_model.specs.Worked.Scheduling.{on_node, one_node, one_lives}

abbrev pub delivered : ℕ → ℕ → WorkerResponse
delivered entry wait =
    Delivered (Some (record { eval = eval_id entry 0; token = token 1 1; wait = wait }))

-- one was placed, and the leader's last index is this
abbrev pub placed_one : ℕ → WorkerResponse
placed_one last = PlanResult (record { eval = eval_id 3 0; token = token 1 1; last = last; placed = 1; refused = [] })

abbrev pub refused : Reason → WorkerResponse
refused reason = Refused (asked.Submit (eval_id 3 0) (token 1 1)) reason

abbrev pub gives_it_back : WorkerStep
gives_it_back = Ask (Nack (eval_id 3 0) (token 1 1))

-- a plan is submitted, and once it is applied the evaluation is blocked
abbrev pub Submits : Type 0
Submits = IsNextStep one_node 4 (delivered 3 4) 0 (Ask (Submit (record {
  eval = eval_id 3 0;
  token = token 1 1;
  job = web;
  version = 3;
  snapshot = 4;
  stops = [];
  places = on_node 0 1 ∷ [];
})))

abbrev pub BlocksAfter : Type 0
BlocksAfter = IsNextStep one_lives 5 (placed_one 5) 1
    (Ask (Finish (eval_id 3 0) (token 1 1) (Blocked 5)))

-- of a job without a row nothing is missing
abbrev pub Completes : Type 0
Completes = IsNextStep (record one_lives { jobs = []; allocs = [] }) 5 (delivered 3 5) 0
    (Ask (Finish (eval_id 3 0) (token 1 1) Complete))

-- the state is too old, whether the evaluation has a row in it or not
abbrev pub TooOld : Type 0
TooOld = IsNextStep one_node 4 (placed_one 5) 1 Later

abbrev pub TooOldForIt : Type 0
TooOldForIt = IsNextStep no_rows 4 (placed_one 5) 1 Later

-- the evaluation has no row, also after 16 plans
abbrev pub NoRow : Type 0
NoRow = IsNextStep one_lives 5 (delivered 4 5) 16 Drop

-- 16 plans were submitted: given back, where one more plan would be made and where none would
abbrev pub SixteenPlans : Type 0
SixteenPlans = IsNextStep one_node 4 (delivered 3 4) 16 gives_it_back

abbrev pub SixteenAndBlocked : Type 0
SixteenAndBlocked = IsNextStep one_lives 5 (placed_one 5) 16 gives_it_back

abbrev pub NoWork : Type 0
NoWork = IsNextStep one_node 4 (Delivered None) 0 Drop

-- a refused plan
abbrev pub PlanIsTooOld : Type 0
PlanIsTooOld = IsNextStep no_rows 0 (refused SnapshotTooOld) 0 gives_it_back

abbrev pub PlanOfOldVersion : Type 0
PlanOfOldVersion = IsNextStep no_rows 0 (refused JobChanged) 0 gives_it_back

abbrev pub PlanOfNoJob : Type 0
PlanOfNoJob = IsNextStep no_rows 0 (refused UnknownJob) 0 gives_it_back

abbrev pub PlanFindsQueueFull : Type 0
PlanFindsQueueFull = IsNextStep no_rows 0 (refused QueueFull) 0 gives_it_back

abbrev pub PlanOfStoppedJob : Type 0
PlanOfStoppedJob = IsNextStep no_rows 0 (refused JobStopped) 0 gives_it_back

abbrev pub PlanUnderOldToken : Type 0
PlanUnderOldToken = IsNextStep no_rows 0 (refused NotOutstanding) 16 Drop

-- another request that is refused
abbrev pub FinishRefused : Type 0
FinishRefused =
    IsNextStep no_rows 0 (Refused (asked.Finish (eval_id 3 0) (token 1 1)) SnapshotTooOld) 0 Drop

abbrev pub TakeRefused : Type 0
TakeRefused = IsNextStep no_rows 0 (Refused asked.Take (NotLeader None)) 0 Drop
