-- The effects once more, as puts of one row after the other at its key: the form in which the code
-- makes them.
use Rattle.std.specs.Prelude.{◌≡◌, map, ℕ, true, not, ◌&&◌, ◌||◌, List, [], ◌∷◌, Option, Some, None, nat_eq, bytes_eq, Bool, if◌then◌else◌}
use Rattle.std.specs.List.{list_any, filter_map}
use Rattle.std.specs.BTreeSet.{BTreeSet, contains}
use Rattle.std.specs.declared.cmp.Ordering.{Ordering}
use Rattle.std.specs.Ordering.{nat_cmp}
use Rattle.rows.specs.declared.job.Job.{Job}
use Rattle.rows.specs.declared.node.Node.{Node}
use Rattle.rows.specs.declared.evaluation.EvalId.{EvalId}
use Rattle.rows.specs.declared.evaluation.Evaluation.{Evaluation}
use Rattle.rows.specs.declared.evaluation.EvalStatus.TheVariants as eval_statuses
use Rattle.rows.specs.declared.allocation.Desired.TheVariants as desires
use Rattle.rows.specs.declared.allocation.ClientState.{ClientState}
use Rattle.rows.specs.declared.allocation.AllocId.{AllocId}
use Rattle.rows.specs.declared.allocation.Allocation.{Allocation}
use Rattle.rows.specs.declared.command.Report.{Report}
use Rattle.rows.specs.Keys.{name_cmp, eval_cmp, alloc_cmp, job_name, node_number, eval_id, alloc_id}
use Rattle.fsm_tables.specs.Rows.{row_of, put_within}
use Rattle.fsm_tables.specs.TableRows.{TableRows}
use Rattle.fsm_tables.specs.Claims.{is_active, is_live}
use Rattle.rows.specs.Limits.{most_jobs, most_nodes, most_evals, most_allocs}
use Rattle.fsm_model.specs.Words.{State, alloc_of, is_open}
use Rattle.fsm_model.specs.Effect.{client_row, left_as, is_ended_by, client_state_of, with_evals}
use Rattle.rows.specs.declared.command.StatusChange.{StatusChange}
use Rattle.rows.specs.Changes.{status_of, snapshot_of}

-- the row with a change, put in its place; without a row nothing changes
abbrev pub put_changed : {K X : Type 0} → (K → K → Ordering) → (X → K) → ℕ → (X → X) → Option X → List X → List X
put_changed R key most f None rows = rows
put_changed R key most f (Some r) rows = put_within R key most (f r) rows

abbrev pub with_row_changed : {K X : Type 0} → (K → K → Ordering) → (X → K) → ℕ → (X → X) → K → List X → List X
with_row_changed R key most f k rows = put_changed R key most f (row_of R key k rows) rows

-- ---- the four tables of a state

abbrev pub rows_of : State → TableRows
rows_of s = record { jobs = s.jobs; nodes = s.nodes; evals = s.evals; allocs = s.allocs }

-- ---- one row put, and one row changed, in a state

abbrev pub put_job : Job → State → State
put_job j s = record s { jobs = put_within name_cmp job_name most_jobs j s.jobs }

abbrev pub put_node : Node → State → State
put_node r s = record s { nodes = put_within nat_cmp node_number most_nodes r s.nodes }

abbrev pub put_eval : Evaluation → State → State
put_eval e s = record s { evals = put_within eval_cmp eval_id most_evals e s.evals }

abbrev pub put_alloc : Allocation → State → State
put_alloc a s = record s { allocs = put_within alloc_cmp alloc_id most_allocs a s.allocs }

-- the evaluation that touches a job of a name and a priority
abbrev pub eval_for : ℕ → ℕ → List ℕ → ℕ → Evaluation
eval_for x slot name priority = record {
  id = record { index = x; slot = slot };
  job = name;
  priority = priority;
  status = eval_statuses.Pending;
  snapshot = 0;
}

abbrev pub job_changed : (Job → Job) → List ℕ → State → State
job_changed f name s = record s { jobs = with_row_changed name_cmp job_name most_jobs f name s.jobs }

abbrev pub node_changed : (Node → Node) → ℕ → State → State
node_changed f n s = record s { nodes = with_row_changed nat_cmp node_number most_nodes f n s.nodes }

abbrev pub eval_changed : (Evaluation → Evaluation) → EvalId → State → State
eval_changed f id s = record s { evals = with_row_changed eval_cmp eval_id most_evals f id s.evals }

abbrev pub alloc_changed : (Allocation → Allocation) → AllocId → State → State
alloc_changed f id s = record s { allocs = with_row_changed alloc_cmp alloc_id most_allocs f id s.allocs }

-- all that is on a node comes into a client state
abbrev pub all_left : ClientState → ℕ → State → State
all_left client n s = record s { allocs = map (left_as client n) s.allocs }

-- a node has room from entry x on
abbrev pub room_at : ℕ → ℕ → List Node → List Node
room_at x n nodes = with_row_changed nat_cmp node_number most_nodes (λ r. record r { room = x }) n nodes

abbrev pub node_has_room : ℕ → State → State
node_has_room n s = record s { nodes = room_at s.count n s.nodes }

-- ---- names of jobs, and the jobs that they touch

-- whether it is one of the names
abbrev pub has_name : List (List ℕ) → List ℕ → Bool
has_name names name = list_any (bytes_eq name) names

-- a set has these names and no other
abbrev pub HasNames : List (List ℕ) → BTreeSet (List ℕ) → Type 0
HasNames names set = (name : List ℕ) → contains name_cmp set name ≡ has_name names name

-- a set gets names, whatever others follow
abbrev pub AddsNames : (List (List ℕ) → List (List ℕ)) → BTreeSet (List ℕ) → BTreeSet (List ℕ) → Type 0
AddsNames more old new = (name : List ℕ) (rest : List (List ℕ))
    → (contains name_cmp new name || has_name rest name) ≡ (contains name_cmp old name || has_name (more rest) name)

-- whether a job's name is one of a set
abbrev pub is_named_in : BTreeSet (List ℕ) → Job → Bool
is_named_in names j = contains name_cmp names j.name

-- the rows of the names that have one, in the order of the names
abbrev pub jobs_at : List Job → List (List ℕ) → List Job
jobs_at jobs names = filter_map (λ name. row_of name_cmp job_name name jobs) names

-- their jobs are touched, in this order
abbrev pub touched_at : List (List ℕ) → State → State
touched_at names s = record s { evals = with_evals s.count 0 (jobs_at s.jobs names) s.evals }

-- ---- one allocation

-- one allocation changes; if that ends it, its node has room
abbrev pub revised_row : (Allocation → Allocation) → Option Allocation → State → State
revised_row f None s = s
revised_row f (Some a) s = record s {
  nodes = if is_ended_by f a then room_at s.count a.node s.nodes else s.nodes;
  allocs = put_within alloc_cmp alloc_id most_allocs (f a) s.allocs;
}

abbrev pub revised : (Allocation → Allocation) → AllocId → State → State
revised f id s = revised_row f (alloc_of id s) s

-- its job, if the change ends it
abbrev pub ended_job : (Allocation → Allocation) → Option Allocation → List (List ℕ) → List (List ℕ)
ended_job f None names = names
ended_job f (Some a) names = if is_ended_by f a then (a.job ∷ names) else names

-- ---- stops, one after the other: altered (stop ids) s

abbrev pub stop_one : Allocation → Allocation
stop_one a = record a { desired = desires.Stop }

abbrev pub stopped_all : List AllocId → State → State
stopped_all [] s = s
stopped_all (id ∷ ids) s = stopped_all ids (revised stop_one id s)

-- ---- reports, one after the other: altered (told_all n rs) s, and the jobs of those that ended

abbrev pub tell_one : ℕ → Report → Allocation → Allocation
tell_one n r a =
    if nat_eq a.node n && is_active a.client then (record a { client = client_state_of r.state }) else a

abbrev pub told_steps : ℕ → List Report → State → State
told_steps n [] s = s
told_steps n (r ∷ rs) s = told_steps n rs (revised (tell_one n r) r.id s)

abbrev pub ended_jobs : ℕ → List Report → State → List (List ℕ)
ended_jobs n [] s = []
ended_jobs n (r ∷ rs) s =
    ended_job (tell_one n r) (alloc_of r.id s) (ended_jobs n rs (revised (tell_one n r) r.id s))

-- ---- marks, one after the other, and the jobs of the live ones

abbrev pub mark_one : Allocation → Allocation
mark_one a = if is_live a then (record a { migrate = true }) else a

abbrev pub marked_all : List AllocId → State → State
marked_all [] s = s
marked_all (id ∷ ids) s = marked_all ids (alloc_changed mark_one id s)

abbrev pub live_job : Option Allocation → List (List ℕ) → List (List ℕ)
live_job None names = names
live_job (Some a) names = if is_live a then (a.job ∷ names) else names

abbrev pub live_jobs : List AllocId → State → List (List ℕ)
live_jobs [] s = []
live_jobs (id ∷ ids) s = live_job (alloc_of id s) (live_jobs ids s)

-- ---- a node's loss: what waits or runs on it comes into a client state, one after the other, and
-- the jobs of what was live

abbrev pub left_steps : ClientState → List Allocation → State → State
left_steps client [] s = s
left_steps client (a ∷ rows) s = left_steps client rows (put_alloc (client_row client a) s)

-- the names of the jobs of rows
abbrev pub owners : List Allocation → List (List ℕ)
owners rows = map (λ a. a.job) rows

-- ---- parts of the steps

-- one allocation's row is put; if it was live and is not now, its node has room
abbrev pub revised_to : Allocation → Allocation → State → State
revised_to a b s = record s {
  nodes = if is_live a && not (is_live b) then room_at s.count a.node s.nodes else s.nodes;
  allocs = put_within alloc_cmp alloc_id most_allocs b s.allocs;
}

-- ---- statuses, and reports told before any is taken

-- the status of one evaluation, unless it is final
abbrev pub set_one : StatusChange → Evaluation → Evaluation
set_one to e =
    if is_open e.status then (record e { status = status_of to; snapshot = snapshot_of to }) else e

abbrev pub ended_now : (Allocation → Allocation) → List Report → State → List (List ℕ)
ended_now f [] s = []
ended_now f (r ∷ rs) s = ended_job f (alloc_of r.id s) (ended_now f rs s)
