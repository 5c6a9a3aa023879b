-- Jobs that are touched, a node that is drained, and statuses of evaluations.
use Rattle.std.specs.Prelude.{◌≡◌, true, false, Some, None, [], ◌∷◌}
use Rattle.rows.specs.declared.refusal.Refusal.TheVariants as refusals
use Rattle.rows.specs.declared.evaluation.EvalStatus.TheVariants as eval_statuses
use Rattle.rows.specs.declared.allocation.Desired.TheVariants as desires
use Rattle.rows.specs.declared.allocation.ClientState.TheVariants as clients
use Rattle.rows.specs.declared.command.StatusChange.TheVariants as changes
use Rattle.rows.specs.declared.command.Command.TheVariants as commands
use Rattle.fsm_model.specs.Words.{State, no_rows, node_of}
use Rattle.fsm_model.specs.Effect.{applied}
use Rattle.fsm_model.specs.Admission.{admission}
use Rattle.fsm_model.specs.Worked.Words.{web, api, size, eval_id, alloc_id, comes, runs, place, plans, node_row, eval_row, alloc_row, after_all}

-- ---- touched jobs

-- A node with live allocations of two jobs goes down: `api` comes before `web`, though `web` was
-- put first.
abbrev pub both_on_one : State
both_on_one = after_all no_rows (
    comes 1 (size 1000 1000)
    ∷ runs web 1 (size 600 300)
    ∷ runs api 1 (size 400 100)
    ∷ plans (eval_id 2 0) web 3 [] (place 0 1 (size 600 300) ∷ [])
    ∷ plans (eval_id 3 0) api 3 [] (place 0 1 (size 400 100) ∷ [])
    ∷ [])

abbrev pub RisingNames : Type 0
RisingNames = (applied both_on_one (commands.NodeDown 1)).evals ≡
    eval_row (eval_id 2 0) web eval_statuses.Pending
    ∷ eval_row (eval_id 3 0) api eval_statuses.Pending
    ∷ eval_row (eval_id 6 0) api eval_statuses.Pending
    ∷ eval_row (eval_id 6 1) web eval_statuses.Pending
    ∷ []

-- a second expiry of the node is refused
abbrev pub DownAlready : Type 0
DownAlready = admission (applied both_on_one (commands.NodeDown 1)) (commands.NodeDown 1) ≡ Some refusals.StaleExpiry

-- the node comes back: ready, with its class and size, and room from then on
abbrev pub ComesBack : Type 0
ComesBack = (applied (applied both_on_one (commands.NodeDown 1)) (comes 1 (size 1000 1000))).nodes ≡ node_row 1 (size 1000 1000) 7 ∷ []

-- ---- a drained node

-- Node 1 is drained, and its allocation of `web` is to move: it is marked, and its job touched.
-- Another has to be live, and on a drained node.
abbrev pub draining_one : State
draining_one = after_all both_on_one (commands.Drain 1 false ∷ commands.Migrate (alloc_id 4 0 ∷ []) ∷ [])

abbrev pub Marked : Type 0
Marked = draining_one.allocs ≡
    record (alloc_row (alloc_id 4 0) web 0 1 (size 600 300) desires.Run clients.Pending (eval_id 2 0)) { migrate = true }
    ∷ alloc_row (alloc_id 5 0) api 0 1 (size 400 100) desires.Run clients.Pending (eval_id 3 0)
    ∷ []

abbrev pub MarkTouches : Type 0
MarkTouches = draining_one.evals ≡
    eval_row (eval_id 2 0) web eval_statuses.Pending
    ∷ eval_row (eval_id 3 0) api eval_statuses.Pending
    ∷ eval_row (eval_id 7 0) web eval_statuses.Pending
    ∷ []

abbrev pub NotDrained : Type 0
NotDrained = admission both_on_one (commands.Migrate (alloc_id 4 0 ∷ [])) ≡ Some refusals.NotDraining

abbrev pub NotEmpty : Type 0
NotEmpty = admission draining_one (commands.DrainDone 1) ≡ Some refusals.NotDraining

-- A drain that is done leaves the node ineligible.
abbrev pub Drained : Type 0
Drained = node_of 1 (applied draining_one (commands.DrainDone 1)) ≡ Some (record (node_row 1 (size 1000 1000) 1) { eligible = false })

-- An evaluation that is blocked keeps the index of the state, and one that is complete stays so.
abbrev pub blocked_two : State
blocked_two = after_all both_on_one (commands.EvalStatus (eval_id 2 0) (changes.Blocked 5) ∷ commands.EvalStatus (eval_id 3 0) changes.Complete ∷ commands.EvalStatus (eval_id 3 0) changes.Pending ∷ [])

abbrev pub Blocked : Type 0
Blocked = blocked_two.evals ≡
    record (eval_row (eval_id 2 0) web eval_statuses.Blocked) { snapshot = 5 }
    ∷ eval_row (eval_id 3 0) api eval_statuses.Complete
    ∷ []

abbrev pub FinalStays : Type 0
FinalStays = admission blocked_two (commands.EvalStatus (eval_id 3 0) changes.Pending) ≡ Some refusals.NotOutstanding

abbrev pub BlockedComesBack : Type 0
BlockedComesBack = admission blocked_two (commands.EvalStatus (eval_id 2 0) changes.Pending) ≡ None
