-- A node that is disconnected: what it holds, what it reports, how it comes back, and how it is
-- lost.
use Rattle.std.specs.Prelude.{◌≡◌, false, Some, None, List, [], ◌∷◌}
use Rattle.rows.specs.declared.refusal.Refusal.TheVariants as refusals
use Rattle.rows.specs.declared.node.Node.{Node}
use Rattle.rows.specs.declared.node.NodeStatus.{NodeStatus}
use Rattle.rows.specs.declared.node.NodeStatus.TheVariants as statuses
use Rattle.rows.specs.declared.evaluation.EvalStatus.TheVariants as eval_statuses
use Rattle.rows.specs.declared.allocation.Allocation.{Allocation}
use Rattle.rows.specs.declared.allocation.Desired.TheVariants as desires
use Rattle.rows.specs.declared.allocation.ClientState.{ClientState}
use Rattle.rows.specs.declared.allocation.ClientState.TheVariants as clients
use Rattle.rows.specs.declared.command.Command.TheVariants as commands
use Rattle.fsm_tables.specs.Claims.{claims, used}
use Rattle.fsm_model.specs.Words.{State}
use Rattle.fsm_model.specs.Effect.{applied}
use Rattle.fsm_model.specs.Admission.{admission}
use Rattle.fsm_model.specs.Worked.Words.{web, api, size, eval_id, alloc_id, comes, mains, place, plans, tells_running, node_row, eval_row, alloc_row, after_all}
use Rattle.fsm_model.specs.Worked.Losses.{two_running, one_down, placed_on_none}
use Rattle.fsm_model.specs.Worked.Moves.{one_of_each, moves_over}
use Rattle.fsm_model.specs.Worked.Refusals.{one_job, plan_of, right_place, tells_complete}

-- ---- a node is disconnected

-- Node 1 of two that run a job of two: its allocation is unknown, no job has a new evaluation, and
-- there is no more room.
abbrev pub one_away : State
one_away = applied (two_running (size 1200 1000)) (commands.Disconnect 1)

abbrev pub nodes_with : NodeStatus → List Node
nodes_with status = record (node_row 1 (size 1000 1000) 2) { status = status } ∷ node_row 2 (size 1200 1000) 3 ∷ []

abbrev pub allocs_with : ClientState → List Allocation
allocs_with client =
    alloc_row (alloc_id 5 0) web 0 1 (size 600 300) desires.Run client (eval_id 4 0)
    ∷ alloc_row (alloc_id 5 1) web 1 2 (size 600 300) desires.Run clients.Running (eval_id 4 0)
    ∷ []

abbrev pub NodeAway : Type 0
NodeAway = one_away ≡ record {
  count = 9;
  jobs = record { name = web; priority = 50; stopped = false; version = 4; groups = mains 2 (size 600 300) } ∷ [];
  nodes = nodes_with statuses.Disconnected;
  evals = eval_row (eval_id 4 0) web eval_statuses.Complete ∷ [];
  allocs = allocs_with clients.Unknown;
}

abbrev pub AwayPasses : Type 0
AwayPasses = admission (two_running (size 1200 1000)) (commands.Disconnect 1) ≡ None

-- what is to stop is unknown as any that is pending or running
abbrev pub StoppingIsUnknown : Type 0
StoppingIsUnknown = (after_all (one_of_each 400) (moves_over ∷ commands.Disconnect 1 ∷ [])).allocs ≡
    alloc_row (alloc_id 5 0) web 0 1 (size 600 300) desires.Stop clients.Unknown (eval_id 3 0)
    ∷ alloc_row (alloc_id 6 0) api 0 2 (size 400 100) desires.Run clients.Pending (eval_id 4 0)
    ∷ alloc_row (alloc_id 8 0) web 0 2 (size 600 300) desires.Run clients.Pending (eval_id 7 0)
    ∷ []

-- What is unknown holds its room, and its name, though node 2 had room for it.
abbrev pub HoldsItsRoom : Type 0
HoldsItsRoom = used 1 (claims one_away.allocs) ≡ size 600 300

abbrev pub HoldsItsName : Type 0
HoldsItsName = admission (applied one_away (commands.EvalPut web)) (plans (eval_id 10 0) web 10 [] (place 0 2 (size 600 300) ∷ [])) ≡ Some refusals.OutOfRange

-- nothing is placed on the node
abbrev pub NotReadyAway : Type 0
NotReadyAway = admission (applied one_job (commands.Disconnect 1)) (plan_of right_place) ≡ Some refusals.OutOfRange

-- ---- which node is

-- one that has a row, and is ready
abbrev pub NoNodeIsAway : Type 0
NoNodeIsAway = admission one_job (commands.Disconnect 2) ≡ Some refusals.UnknownNode

abbrev pub AwayAlready : Type 0
AwayAlready = admission one_away (commands.Disconnect 1) ≡ Some refusals.StaleExpiry

abbrev pub DownIsNotAway : Type 0
DownIsNotAway = admission (one_down (size 1200 1000)) (commands.Disconnect 1) ≡ Some refusals.StaleExpiry

-- Where it is applied all the same: without a row of the node only the count rises, and what was
-- lost stays so.
abbrev pub AwayWithoutRow : Type 0
AwayWithoutRow = applied placed_on_none (commands.Disconnect 7) ≡ record placed_on_none { count = 3 }

abbrev pub LostStaysLost : Type 0
LostStaysLost = applied (one_down (size 1200 1000)) (commands.Disconnect 1) ≡ record (one_down (size 1200 1000)) { count = 10; nodes = nodes_with statuses.Disconnected }

-- ---- the node reports

-- It runs all along: that is known again, and the node's status is for its agent to change.
abbrev pub RunsAllAlong : Type 0
RunsAllAlong = applied one_away (tells_running 1 (alloc_id 5 0)) ≡ record one_away { count = 10; allocs = allocs_with clients.Running }

abbrev pub RunsAllAlongPasses : Type 0
RunsAllAlongPasses = admission one_away (tells_running 1 (alloc_id 5 0)) ≡ None

-- It ended meanwhile: the node has room, and the job is touched.
abbrev pub EndedMeanwhile : Type 0
EndedMeanwhile = applied one_away (tells_complete 1 (alloc_id 5 0)) ≡ record one_away {
  count = 10;
  nodes = record (node_row 1 (size 1000 1000) 10) { status = statuses.Disconnected } ∷ node_row 2 (size 1200 1000) 3 ∷ [];
  evals = eval_row (eval_id 4 0) web eval_statuses.Complete ∷ eval_row (eval_id 10 0) web eval_statuses.Pending ∷ [];
  allocs = allocs_with clients.Complete;
}

-- ---- the node comes back

-- It is ready and has room; what is unknown stays so until it is reported.
abbrev pub BackAgain : Type 0
BackAgain = applied one_away (comes 1 (size 1000 1000)) ≡ record one_away {
  count = 10;
  nodes = node_row 1 (size 1000 1000) 10 ∷ node_row 2 (size 1200 1000) 3 ∷ [];
}

-- ---- the node is lost

-- Not heard of for longer it is down: its allocation is lost, and its job has a new evaluation.
abbrev pub lost_then : State
lost_then = applied one_away (commands.NodeDown 1)

abbrev pub LostThen : Type 0
LostThen = lost_then ≡ record one_away {
  count = 10;
  nodes = nodes_with statuses.Down;
  evals = eval_row (eval_id 4 0) web eval_statuses.Complete ∷ eval_row (eval_id 10 0) web eval_statuses.Pending ∷ [];
  allocs = allocs_with clients.Lost;
}

abbrev pub LostThenPasses : Type 0
LostThenPasses = admission one_away (commands.NodeDown 1) ≡ None

-- a late report that it runs leaves it lost
abbrev pub LateAfterLoss : Type 0
LateAfterLoss = applied lost_then (tells_running 1 (alloc_id 5 0)) ≡ record lost_then { count = 11 }

-- and its name is free
abbrev pub NameIsFree : Type 0
NameIsFree = admission lost_then (plans (eval_id 10 0) web 10 [] (place 0 2 (size 600 300) ∷ [])) ≡ None
