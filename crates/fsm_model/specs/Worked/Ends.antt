-- What stops and what ends: a job, allocations that a node reports, one that is to stop and whose
-- node is lost, one whose node comes back.
use Rattle.std.specs.Prelude.{◌≡◌, false, true, [], ◌∷◌}
use Rattle.rows.specs.declared.node.DrainMode.TheVariants as drains
use Rattle.rows.specs.declared.evaluation.EvalStatus.TheVariants as eval_statuses
use Rattle.rows.specs.declared.allocation.Desired.TheVariants as desires
use Rattle.rows.specs.declared.allocation.ClientState.TheVariants as clients
use Rattle.rows.specs.declared.command.ReportedState.TheVariants as reported_states
use Rattle.rows.specs.declared.command.Command.TheVariants as commands
use Rattle.fsm_model.specs.Words.{State}
use Rattle.fsm_model.specs.Effect.{applied}
use Rattle.fsm_model.specs.Worked.Words.{web, api, size, eval_id, alloc_id, comes, mains, runs, node_row, eval_row, alloc_row, after_all}
use Rattle.fsm_model.specs.Worked.Moves.{one_of_each, moves_over}
use Rattle.fsm_model.specs.Worked.Drains.{both_on_one, draining_one}
use Rattle.fsm_model.specs.Worked.Refusals.{stopped_job, one_placed, tells_complete}

-- ---- a job stops, and is put again

abbrev pub JobStops : Type 0
JobStops = stopped_job.jobs ≡ record { name = web; priority = 50; stopped = true; version = 3; groups = mains 1 (size 600 300) } ∷ []

abbrev pub StopTouches : Type 0
StopTouches = stopped_job.evals ≡ eval_row (eval_id 2 0) web eval_statuses.Pending ∷ eval_row (eval_id 3 0) web eval_statuses.Pending ∷ []

abbrev pub PutAgain : Type 0
PutAgain = (applied stopped_job (runs web 2 (size 500 200))).jobs ≡ record { name = web; priority = 50; stopped = false; version = 4; groups = mains 2 (size 500 200) } ∷ []

-- ---- a node reports

-- What ends gives room, and its job is touched.
abbrev pub one_ended : State
one_ended = applied one_placed (tells_complete 1 (alloc_id 3 0))

abbrev pub Ended : Type 0
Ended = one_ended.allocs ≡ alloc_row (alloc_id 3 0) web 0 1 (size 600 300) desires.Run clients.Complete (eval_id 2 0) ∷ []

abbrev pub EndGivesRoom : Type 0
EndGivesRoom = one_ended.nodes ≡ node_row 1 (size 1000 1000) 4 ∷ []

abbrev pub EndTouches : Type 0
EndTouches = one_ended.evals ≡ eval_row (eval_id 2 0) web eval_statuses.Pending ∷ eval_row (eval_id 4 0) web eval_statuses.Pending ∷ []

-- two reports of one allocation, in their order; what is final stays
abbrev pub ReportsInOrder : Type 0
ReportsInOrder =
    (applied one_placed (commands.Report 1 (
    record { id = alloc_id 3 0; state = reported_states.Running }
    ∷ record { id = alloc_id 3 0; state = reported_states.Failed }
    ∷ record { id = alloc_id 3 0; state = reported_states.Complete }
    ∷ []))).allocs
    ≡ alloc_row (alloc_id 3 0) web 0 1 (size 600 300) desires.Run clients.Failed (eval_id 2 0) ∷ []

-- a report of another node changes no row
abbrev pub OtherNodesReport : Type 0
OtherNodesReport = (applied one_placed (tells_complete 2 (alloc_id 3 0))).allocs ≡ one_placed.allocs

-- ---- an allocation that is to stop, and whose node is lost

abbrev pub lost_stopping : State
lost_stopping = after_all (one_of_each 400) (moves_over ∷ commands.NodeDown 1 ∷ [])

-- it is lost as any that is pending or running
abbrev pub StoppingIsLost : Type 0
StoppingIsLost = lost_stopping.allocs ≡
    alloc_row (alloc_id 5 0) web 0 1 (size 600 300) desires.Stop clients.Lost (eval_id 3 0)
    ∷ alloc_row (alloc_id 6 0) api 0 2 (size 400 100) desires.Run clients.Pending (eval_id 4 0)
    ∷ alloc_row (alloc_id 8 0) web 0 2 (size 600 300) desires.Run clients.Pending (eval_id 7 0)
    ∷ []

-- and as it was not live its job is not touched
abbrev pub StoppingTouchesNone : Type 0
StoppingTouchesNone = lost_stopping.evals ≡ (applied (one_of_each 400) moves_over).evals

-- ---- a node that drains

abbrev pub DrainsByForce : Type 0
DrainsByForce = (applied both_on_one (commands.Drain 1 true)).nodes ≡ record (node_row 1 (size 1000 1000) 1) { eligible = false; drain = drains.Force } ∷ []

-- it comes back as it was, but ready and with room
abbrev pub StaysDrained : Type 0
StaysDrained =
    (after_all draining_one (commands.NodeDown 1 ∷ comes 1 (size 1000 1000) ∷ [])).nodes
    ≡ record (node_row 1 (size 1000 1000) 9) { eligible = false; drain = drains.Slow } ∷ []

-- what is lost is not marked any more, and its job not touched
abbrev pub LostIsNotMarked : Type 0
LostIsNotMarked =
    applied (applied draining_one (commands.NodeDown 1)) (commands.Migrate (alloc_id 5 0 ∷ []))
    ≡ record (applied draining_one (commands.NodeDown 1)) { count = 9 }
