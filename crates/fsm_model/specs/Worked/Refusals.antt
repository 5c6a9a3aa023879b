-- What a state refuses, and in which order: worked commands for the tests of the table, but those
-- of full tables and what the other modules here work out, and commands that pass.
use Rattle.std.specs.Prelude.{◌≡◌, ℕ, false, true, Some, None, List, [], ◌∷◌}
use Rattle.rows.specs.declared.refusal.Refusal.TheVariants as refusals
use Rattle.rows.specs.declared.size.Size.{Size}
use Rattle.rows.specs.declared.allocation.AllocId.{AllocId}
use Rattle.rows.specs.declared.command.AcceptedPlace.{AcceptedPlace}
use Rattle.rows.specs.declared.command.ReportedState.TheVariants as reported_states
use Rattle.rows.specs.declared.command.StatusChange.TheVariants as changes
use Rattle.rows.specs.declared.command.Command.{Command}
use Rattle.rows.specs.declared.command.Command.TheVariants as commands
use Rattle.fsm_model.specs.Words.{State, no_rows}
use Rattle.fsm_model.specs.Effect.{applied}
use Rattle.fsm_model.specs.Admission.{admission}
use Rattle.fsm_model.specs.Worked.Words.{linux, web, api, size, size_with_disk, eval_id, alloc_id, comes, runs, place, plans, after_all}

-- ---- nodes

-- node 1, and `web` of one allocation of group `main`, whose evaluation is (2, 0)
abbrev pub one_job : State
one_job = after_all no_rows (comes 1 (size 1000 1000) ∷ runs web 1 (size 600 300) ∷ [])

abbrev pub comes_as : List ℕ → Size → Command
comes_as class room = commands.NodePut (record { number = 1; class = class; size = room })

-- a node comes again with its class and size, or is refused
abbrev pub ComesAgain : Type 0
ComesAgain = admission one_job (comes_as linux (size 1000 1000)) ≡ None

abbrev pub OtherCpu : Type 0
OtherCpu = admission one_job (comes_as linux (size 1001 1000)) ≡ Some refusals.NodeDiffers

abbrev pub OtherMemory : Type 0
OtherMemory = admission one_job (comes_as linux (size 1000 999)) ≡ Some refusals.NodeDiffers

abbrev pub OtherDisk : Type 0
OtherDisk = admission one_job (comes_as linux (size_with_disk 1000 1000 1)) ≡ Some refusals.NodeDiffers

abbrev pub OtherClass : Type 0
OtherClass = admission one_job (comes_as web (size 1000 1000)) ≡ Some refusals.NodeDiffers

-- of a node without a row nothing is taken but that it comes
abbrev pub NoNodeIsDown : Type 0
NoNodeIsDown = admission one_job (commands.NodeDown 2) ≡ Some refusals.UnknownNode

abbrev pub NoNodeDrains : Type 0
NoNodeDrains = admission one_job (commands.Drain 2 true) ≡ Some refusals.UnknownNode

abbrev pub NoNodeIsDrained : Type 0
NoNodeIsDrained = admission one_job (commands.DrainDone 2) ≡ Some refusals.UnknownNode

-- of one that has a row both are
abbrev pub NodeIsDown : Type 0
NodeIsDown = admission one_job (commands.NodeDown 1) ≡ None

abbrev pub NodeDrains : Type 0
NodeDrains = admission one_job (commands.Drain 1 true) ≡ None

-- it is drained where it drains and nothing lives on it; node 1 does not drain
abbrev pub NodeIsDrained : Type 0
NodeIsDrained = admission (applied one_job (commands.Drain 1 true)) (commands.DrainDone 1) ≡ None

abbrev pub DoesNotDrain : Type 0
DoesNotDrain = admission one_job (commands.DrainDone 1) ≡ Some refusals.NotDraining

-- ---- jobs and evaluations

abbrev pub NoJobStops : Type 0
NoJobStops = admission one_job (commands.JobStop api) ≡ Some refusals.UnknownJob

abbrev pub StopPasses : Type 0
StopPasses = admission one_job (commands.JobStop web) ≡ None

abbrev pub NoJobIsAsked : Type 0
NoJobIsAsked = admission one_job (commands.EvalPut api) ≡ Some refusals.UnknownJob

-- `web` is stopped
abbrev pub stopped_job : State
stopped_job = applied one_job (commands.JobStop web)

abbrev pub StopsOnce : Type 0
StopsOnce = admission stopped_job (commands.JobStop web) ≡ Some refusals.JobStopped

abbrev pub StoppedIsAsked : Type 0
StoppedIsAsked = admission stopped_job (commands.EvalPut web) ≡ None

abbrev pub NoEvaluation : Type 0
NoEvaluation = admission one_job (commands.EvalStatus (eval_id 2 1) changes.Complete) ≡ Some refusals.NotOutstanding

abbrev pub EvaluationEnds : Type 0
EvaluationEnds = admission one_job (commands.EvalStatus (eval_id 2 0) changes.Complete) ≡ None

abbrev pub PendingAlready : Type 0
PendingAlready = admission one_job (commands.EvalStatus (eval_id 2 0) changes.Pending) ≡ Some refusals.NotOutstanding

-- ---- plans: for the evaluation of `web`, of a place

abbrev pub plan_of : AcceptedPlace → Command
plan_of k = plans (eval_id 2 0) web 2 [] (k ∷ [])

abbrev pub right_place : AcceptedPlace
right_place = place 0 1 (size 600 300)

abbrev pub PlacePasses : Type 0
PlacePasses = admission one_job (plan_of right_place) ≡ None

-- its group, its size, its index
abbrev pub OtherGroup : Type 0
OtherGroup = admission one_job (plan_of (record right_place { group = api })) ≡ Some refusals.OutOfRange

abbrev pub LessCpu : Type 0
LessCpu = admission one_job (plan_of (place 0 1 (size 599 300))) ≡ Some refusals.OutOfRange

abbrev pub LessMemory : Type 0
LessMemory = admission one_job (plan_of (place 0 1 (size 600 299))) ≡ Some refusals.OutOfRange

abbrev pub MoreDisk : Type 0
MoreDisk = admission one_job (plan_of (place 0 1 (size_with_disk 600 300 1))) ≡ Some refusals.OutOfRange

abbrev pub PastTheCount : Type 0
PastTheCount = admission one_job (plan_of (place 1 1 (size 600 300))) ≡ Some refusals.OutOfRange

-- its node: one without a row, one that drains, one that is down, one of another class
abbrev pub NowhereToRun : Type 0
NowhereToRun = admission one_job (plan_of (place 0 2 (size 600 300))) ≡ Some refusals.OutOfRange

abbrev pub NotEligible : Type 0
NotEligible = admission (applied one_job (commands.Drain 1 false)) (plan_of right_place) ≡ Some refusals.OutOfRange

abbrev pub NotReady : Type 0
NotReady = admission (applied one_job (commands.NodeDown 1)) (plan_of right_place) ≡ Some refusals.OutOfRange

abbrev pub other_class : State
other_class = after_all no_rows (comes_as api (size 1000 1000) ∷ runs web 1 (size 600 300) ∷ [])

abbrev pub NotOfTheClass : Type 0
NotOfTheClass = admission other_class (plan_of right_place) ≡ Some refusals.OutOfRange

-- of a job that is stopped nothing is placed
abbrev pub StoppedIsNotPlaced : Type 0
StoppedIsNotPlaced = admission stopped_job (plan_of right_place) ≡ Some refusals.JobStopped

abbrev pub StoppedIsPlanned : Type 0
StoppedIsPlanned = admission stopped_job (plans (eval_id 2 0) web 2 [] []) ≡ None

-- The evaluation is asked first, then the job, then the stops, before it is asked whether the job is
-- stopped, and that before the places.
abbrev pub done_job : State
done_job = applied one_job (commands.EvalStatus (eval_id 2 0) changes.Failed)

abbrev pub EvaluationFirst : Type 0
EvaluationFirst = admission done_job (plans (eval_id 2 0) api 2 (alloc_id 9 0 ∷ []) []) ≡ Some refusals.NotOutstanding

abbrev pub ThenTheJob : Type 0
ThenTheJob = admission one_job (plans (eval_id 2 0) api 2 (alloc_id 9 0 ∷ []) []) ≡ Some refusals.UnknownJob

abbrev pub ThenTheStops : Type 0
ThenTheStops = admission stopped_job (plans (eval_id 2 0) web 2 (alloc_id 9 0 ∷ []) (right_place ∷ [])) ≡ Some refusals.UnknownAlloc

abbrev pub ThenWhetherStopped : Type 0
ThenWhetherStopped = admission stopped_job (plan_of (place 1 1 (size 600 300))) ≡ Some refusals.JobStopped

-- ---- allocations

-- `web` runs on node 1, as allocation (3, 0)
abbrev pub one_placed : State
one_placed = applied one_job (plan_of right_place)

abbrev pub NoneMoves : Type 0
NoneMoves = admission (applied one_placed (commands.Drain 1 false)) (commands.Migrate (alloc_id 3 0 ∷ alloc_id 3 1 ∷ [])) ≡ Some refusals.UnknownAlloc

abbrev pub OneMoves : Type 0
OneMoves = admission (applied one_placed (commands.Drain 1 false)) (commands.Migrate (alloc_id 3 0 ∷ [])) ≡ None

abbrev pub tells_complete : ℕ → AllocId → Command
tells_complete n id = commands.Report n (record { id = id; state = reported_states.Complete } ∷ [])

abbrev pub NoNodeReports : Type 0
NoNodeReports = admission one_placed (tells_complete 2 (alloc_id 3 1)) ≡ Some refusals.UnknownNode

abbrev pub NoneIsReported : Type 0
NoneIsReported = admission one_placed (tells_complete 1 (alloc_id 3 1)) ≡ Some refusals.UnknownAlloc

abbrev pub OtherNodeReports : Type 0
OtherNodeReports = admission (applied one_placed (comes 2 (size 1000 1000))) (tells_complete 2 (alloc_id 3 0)) ≡ Some refusals.UnknownAlloc

abbrev pub EndIsReported : Type 0
EndIsReported = admission one_placed (tells_complete 1 (alloc_id 3 0)) ≡ None
