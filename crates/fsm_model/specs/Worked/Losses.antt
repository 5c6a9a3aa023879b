-- Two nodes and a job of two, of which one node is lost.
use Rattle.std.specs.Prelude.{◌≡◌, false, Some, None, [], ◌∷◌}
use Rattle.rows.specs.declared.refusal.Refusal.TheVariants as refusals
use Rattle.rows.specs.declared.size.Size.{Size}
use Rattle.rows.specs.declared.node.NodeStatus.TheVariants as statuses
use Rattle.rows.specs.declared.evaluation.EvalStatus.TheVariants as eval_statuses
use Rattle.rows.specs.declared.allocation.Desired.TheVariants as desires
use Rattle.rows.specs.declared.allocation.ClientState.TheVariants as clients
use Rattle.rows.specs.declared.command.StatusChange.TheVariants as changes
use Rattle.rows.specs.declared.command.Command.{Command}
use Rattle.rows.specs.declared.command.Command.TheVariants as commands
use Rattle.fsm_tables.specs.Claims.{claims, used}
use Rattle.fsm_model.specs.Words.{State, no_rows}
use Rattle.fsm_model.specs.Effect.{applied}
use Rattle.fsm_model.specs.Admission.{admission}
use Rattle.fsm_model.specs.Worked.Words.{web, size, eval_id, alloc_id, comes, mains, runs, place, plans, tells_running, node_row, eval_row, alloc_row, after_all}

-- A leader's no-op, two nodes, a job of two allocations that fit a node of 1,000 each, the plan,
-- the end of its evaluation, and what the nodes report.
abbrev pub two_running : Size → State
two_running second = after_all no_rows (
    commands.Noop
    ∷ comes 1 (size 1000 1000)
    ∷ comes 2 second
    ∷ runs web 2 (size 600 300)
    ∷ plans (eval_id 4 0) web 4 [] (place 0 1 (size 600 300) ∷ place 1 2 (size 600 300) ∷ [])
    ∷ commands.EvalStatus (eval_id 4 0) changes.Complete
    ∷ tells_running 1 (alloc_id 5 0)
    ∷ tells_running 2 (alloc_id 5 1)
    ∷ [])

abbrev pub TwoRun : Type 0
TwoRun = two_running (size 1000 1000) ≡ record {
  count = 8;
  jobs = record { name = web; priority = 50; stopped = false; version = 4; groups = mains 2 (size 600 300) } ∷ [];
  nodes = node_row 1 (size 1000 1000) 2 ∷ node_row 2 (size 1000 1000) 3 ∷ [];
  evals = eval_row (eval_id 4 0) web eval_statuses.Complete ∷ [];
  allocs = alloc_row (alloc_id 5 0) web 0 1 (size 600 300) desires.Run clients.Running (eval_id 4 0) ∷ alloc_row (alloc_id 5 1) web 1 2 (size 600 300) desires.Run clients.Running (eval_id 4 0) ∷ [];
}

-- Node 1 goes down: its allocation is lost, and its job has a new evaluation. That frees no room.
abbrev pub one_down : Size → State
one_down second = applied (two_running second) (commands.NodeDown 1)

abbrev pub NodeLost : Type 0
NodeLost = one_down (size 1200 1000) ≡ record {
  count = 9;
  jobs = record { name = web; priority = 50; stopped = false; version = 4; groups = mains 2 (size 600 300) } ∷ [];
  nodes = record (node_row 1 (size 1000 1000) 2) { status = statuses.Down } ∷ node_row 2 (size 1200 1000) 3 ∷ [];
  evals = eval_row (eval_id 4 0) web eval_statuses.Complete ∷ eval_row (eval_id 9 0) web eval_statuses.Pending ∷ [];
  allocs = alloc_row (alloc_id 5 0) web 0 1 (size 600 300) desires.Run clients.Lost (eval_id 4 0) ∷ alloc_row (alloc_id 5 1) web 1 2 (size 600 300) desires.Run clients.Running (eval_id 4 0) ∷ [];
}

-- A node without a row is lost, of which an allocation is all the same: only the count rises.
abbrev pub placed_on_none : State
placed_on_none = after_all no_rows (runs web 1 (size 600 300) ∷ plans (eval_id 1 0) web 1 [] (place 0 7 (size 600 300) ∷ []) ∷ [])

abbrev pub StaysWithoutRow : Type 0
StaysWithoutRow = applied placed_on_none (commands.NodeDown 7) ≡ record {
  count = 3;
  jobs = record { name = web; priority = 50; stopped = false; version = 1; groups = mains 1 (size 600 300) } ∷ [];
  nodes = [];
  evals = eval_row (eval_id 1 0) web eval_statuses.Pending ∷ [];
  allocs = alloc_row (alloc_id 2 0) web 0 7 (size 600 300) desires.Run clients.Pending (eval_id 1 0) ∷ [];
}

-- A late report that it runs is admitted, and leaves it lost: only the count rises.
abbrev pub LateReport : Type 0
LateReport = applied (one_down (size 1200 1000)) (tells_running 1 (alloc_id 5 0)) ≡ record (one_down (size 1200 1000)) { count = 10 }

abbrev pub LateReportPasses : Type 0
LateReportPasses = admission (one_down (size 1200 1000)) (tells_running 1 (alloc_id 5 0)) ≡ None

-- Its name is placed again, on node 2, which then has 1,200 of 1,200 in use; on a node of 1,199 the
-- plan is refused.
abbrev pub again : Command
again = plans (eval_id 9 0) web 9 [] (place 0 2 (size 600 300) ∷ [])

abbrev pub PlacedAgain : Type 0
PlacedAgain = (applied (one_down (size 1200 1000)) again).allocs ≡
    alloc_row (alloc_id 5 0) web 0 1 (size 600 300) desires.Run clients.Lost (eval_id 4 0)
    ∷ alloc_row (alloc_id 5 1) web 1 2 (size 600 300) desires.Run clients.Running (eval_id 4 0)
    ∷ alloc_row (alloc_id 10 0) web 0 2 (size 600 300) desires.Run clients.Pending (eval_id 9 0)
    ∷ []

abbrev pub AllInUse : Type 0
AllInUse = used 2 (claims (applied (one_down (size 1200 1000)) again).allocs) ≡ size 1200 600

abbrev pub LastPasses : Type 0
LastPasses = admission (one_down (size 1200 1000)) again ≡ None

abbrev pub OneTooMany : Type 0
OneTooMany = admission (one_down (size 1199 1000)) again ≡ Some refusals.OutOfRange
