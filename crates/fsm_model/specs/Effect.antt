-- What each command does to a state. It does so to every state, safe or not, admitted or not:
-- nothing here tests capacity or names, and what names no row changes nothing.
use Rattle.std.specs.Prelude.{ℕ, ◌+◌, Bool, true, false, not, ◌&&◌, List, [], ◌∷◌, map, filter, Option, Some, None, nat_eq, bytes_eq, if◌then◌else◌}
use Rattle.std.specs.List.{list_any}
use Rattle.std.specs.Ordering.{nat_cmp}
use Rattle.rows.specs.declared.job.Job.{Job}
use Rattle.rows.specs.declared.job.JobSpec.{JobSpec}
use Rattle.rows.specs.declared.node.Node.{Node}
use Rattle.rows.specs.declared.node.NodeSpec.{NodeSpec}
use Rattle.rows.specs.declared.node.NodeStatus.{NodeStatus}
use Rattle.rows.specs.declared.node.NodeStatus.TheVariants as statuses
use Rattle.rows.specs.declared.node.DrainMode.TheVariants as drains
use Rattle.rows.specs.declared.evaluation.EvalId.{EvalId}
use Rattle.rows.specs.declared.evaluation.Evaluation.{Evaluation}
use Rattle.rows.specs.declared.evaluation.EvalStatus.TheVariants as eval_statuses
use Rattle.rows.specs.declared.allocation.Desired.TheVariants as desires
use Rattle.rows.specs.declared.allocation.ClientState.{ClientState}
use Rattle.rows.specs.declared.allocation.ClientState.TheVariants as clients
use Rattle.rows.specs.declared.allocation.AllocId.{AllocId}
use Rattle.rows.specs.declared.allocation.Allocation.{Allocation}
use Rattle.rows.specs.declared.command.AcceptedPlace.{AcceptedPlace}
use Rattle.rows.specs.declared.command.AcceptedPlan.{AcceptedPlan}
use Rattle.rows.specs.declared.command.Report.{Report}
use Rattle.rows.specs.declared.command.ReportedState.{ReportedState}
use Rattle.rows.specs.declared.command.ReportedState.TheVariants as reported_states
use Rattle.rows.specs.declared.command.StatusChange.{StatusChange}
use Rattle.rows.specs.declared.command.Command.{Command}
use Rattle.rows.specs.declared.command.Command.TheVariants as commands
use Rattle.rows.specs.Changes.{status_of, snapshot_of}
use Rattle.rows.specs.Keys.{name_cmp, eval_cmp, alloc_cmp, job_name, node_number, eval_id, alloc_id}
use Rattle.fsm_tables.specs.Rows.{put_within}
use Rattle.fsm_tables.specs.Claims.{is_wanted, is_active, is_live}
use Rattle.fsm_tables.specs.Lookups.{lives_on, is_active_on}
use Rattle.rows.specs.Limits.{most_jobs, most_nodes, most_evals, most_allocs}
use Rattle.fsm_model.specs.Words.{State, same_eval, same_alloc, node_of, no_node, is_open}

-- one more command was applied
abbrev pub with_next_count : State → State
with_next_count s = record s { count = s.count + 1 }

-- ---- to touch jobs: one new evaluation for each of them that has a row, in the order of the rows

abbrev pub new_eval : ℕ → ℕ → Job → Evaluation
new_eval x slot j = record {
  id = record { index = x; slot = slot };
  job = j.name;
  priority = j.priority;
  status = eval_statuses.Pending;
  snapshot = 0;
}

abbrev pub with_evals : ℕ → ℕ → List Job → List Evaluation → List Evaluation
with_evals x slot [] evals = evals
with_evals x slot (j ∷ js) evals =
    with_evals x (slot + 1) js (put_within eval_cmp eval_id most_evals (new_eval x slot j) evals)

abbrev pub evaluations_created : (Job → Bool) → State → State
evaluations_created those s = record s { evals = with_evals s.count 0 (filter those s.jobs) s.evals }

abbrev pub is_named : List ℕ → Job → Bool
is_named name j = bytes_eq j.name name

-- the jobs of which there is such an allocation
abbrev pub owns : (Allocation → Bool) → List Allocation → Job → Bool
owns which rows j = list_any (λ a. which a && bytes_eq a.job j.name) rows

-- ---- jobs

abbrev pub job_row : ℕ → JobSpec → Job
job_row x j = record {
  name = j.name;
  priority = j.priority;
  stopped = false;
  version = x;
  groups = j.groups;
}

-- the job's row is made or replaced
abbrev pub with_job_row : JobSpec → State → State
with_job_row j s = record s { jobs = put_within name_cmp job_name most_jobs (job_row s.count j) s.jobs }

abbrev pub stopped_row : ℕ → Job → Job
stopped_row x j = record j { stopped = true; version = x }

abbrev pub stop_job : ℕ → List ℕ → Job → Job
stop_job x name j = if is_named name j then stopped_row x j else j

-- the job's row is stopped
abbrev pub with_job_stopped : List ℕ → State → State
with_job_stopped name s = record s { jobs = map (stop_job s.count name) s.jobs }

-- ---- nodes

-- a node that comes: its first row, or its old row, of which all but the status and the room stays
abbrev pub node_row : ℕ → NodeSpec → Option Node → Node
node_row x n None = record {
  number = n.number;
  class = n.class;
  size = n.size;
  status = statuses.Ready;
  eligible = true;
  drain = drains.Off;
  room = x;
}
node_row x n (Some old) = record old { status = statuses.Ready; room = x }

abbrev pub node_put : NodeSpec → State → State
node_put n s =
    let row = node_row s.count n (node_of n.number s) in
    record s { nodes = put_within nat_cmp node_number most_nodes row s.nodes }

abbrev pub status_row : NodeStatus → Node → Node
status_row status r = record r { status = status }

abbrev pub marked_as : NodeStatus → ℕ → Node → Node
marked_as status n r = if nat_eq r.number n then status_row status r else r

abbrev pub draining_row : Bool → Node → Node
draining_row force r = record r { eligible = false; drain = if force then drains.Force else drains.Slow }

abbrev pub draining : ℕ → Bool → Node → Node
draining n force r = if nat_eq r.number n then draining_row force r else r

-- the node begins to be emptied
abbrev pub drain_node : ℕ → Bool → State → State
drain_node n force s = record s { nodes = map (draining n force) s.nodes }

abbrev pub drained_row : Node → Node
drained_row r = record r { drain = drains.Off }

abbrev pub drained : ℕ → Node → Node
drained n r = if nat_eq r.number n then drained_row r else r

-- the node is empty
abbrev pub drain_done : ℕ → State → State
drain_done n s = record s { nodes = map (drained n) s.nodes }

abbrev pub client_row : ClientState → Allocation → Allocation
client_row client a = record a { client = client }

-- what is not final on the node
abbrev pub left_as : ClientState → ℕ → Allocation → Allocation
left_as client n a = if is_active_on n a then client_row client a else a

-- A node is not heard of: its row is of this status, and what was not final on it in this client
-- state.
abbrev pub unreached : NodeStatus → ClientState → ℕ → State → State
unreached status client n s =
    record s { nodes = map (marked_as status n) s.nodes; allocs = map (left_as client n) s.allocs }

-- A node that has a row is down: what was not final on it is lost, and the jobs of what was live
-- are touched.
abbrev pub downed : ℕ → State → State
downed n s =
    evaluations_created (owns (lives_on n) s.allocs) (unreached statuses.Down clients.Lost n s)

-- A node's loss. Without a row of the node nothing changes, also where allocations name it.
abbrev pub node_down : ℕ → State → State
node_down n s = if no_node n s then s else downed n s

-- A node that has a row is disconnected: what was not final on it is unknown. No job is touched.
abbrev pub disconnected : ℕ → State → State
disconnected n s = unreached statuses.Disconnected clients.Unknown n s

-- A node goes out of sight. Without a row of the node nothing changes, also where allocations name
-- it.
abbrev pub disconnect : ℕ → State → State
disconnect n s = if no_node n s then s else disconnected n s

-- ---- allocations that are to move

-- a live one that is named
abbrev pub moves : List AllocId → Allocation → Bool
moves ids a = list_any (same_alloc a.id) ids && is_live a

abbrev pub with_migrate_mark : List AllocId → Allocation → Allocation
with_migrate_mark ids a = if moves ids a then (record a { migrate = true }) else a

-- the live ones named are marked, and their jobs touched
abbrev pub migrate : List AllocId → State → State
migrate ids s =
    evaluations_created (owns (moves ids) s.allocs) (record s { allocs = map (with_migrate_mark ids) s.allocs })

-- ---- evaluations

-- an evaluation that is complete or failed stays as it is
abbrev pub set_status : EvalId → StatusChange → Evaluation → Evaluation
set_status id to e =
    if same_eval e.id id && is_open e.status then (record e { status = status_of to; snapshot = snapshot_of to }) else e

abbrev pub set_eval_status : EvalId → StatusChange → State → State
set_eval_status id to s = record s { evals = map (set_status id to) s.evals }

-- ---- allocations that end by a change of rows: their nodes have room from this command on

abbrev pub is_ended_by : (Allocation → Allocation) → Allocation → Bool
is_ended_by f a = is_live a && not (is_live (f a))

-- whether the change ends one on the node
abbrev pub frees : (Allocation → Allocation) → List Allocation → ℕ → Bool
frees f rows n = list_any (λ a. nat_eq a.node n && is_ended_by f a) rows

abbrev pub with_room : (ℕ → Bool) → ℕ → Node → Node
with_room freed x r = if freed r.number then (record r { room = x }) else r

abbrev pub altered : (Allocation → Allocation) → State → State
altered f s = record s {
  nodes = map (with_room (frees f s.allocs) s.count) s.nodes;
  allocs = map f s.allocs;
}

-- ---- plans: first the stops, then the places

-- a row that is named and is to run is to stop
abbrev pub stop : List AllocId → Allocation → Allocation
stop ids a =
    if list_any (same_alloc a.id) ids && is_wanted a.desired then (record a { desired = desires.Stop }) else a

-- the allocation that place k of a plan makes, k being its slot
abbrev pub alloc_row : ℕ → ℕ → AcceptedPlan → AcceptedPlace → Allocation
alloc_row x slot p k = record {
  id = record { index = x; slot = slot };
  job = p.job;
  group = k.group;
  index = k.index;
  node = k.node;
  size = k.size;
  desired = desires.Run;
  client = clients.Pending;
  migrate = false;
  eval = p.eval;
}

abbrev pub with_places : ℕ → ℕ → AcceptedPlan → List AcceptedPlace → List Allocation → List Allocation
with_places x slot p [] rows = rows
with_places x slot p (k ∷ ks) rows =
    with_places x (slot + 1) p ks (put_within alloc_cmp alloc_id most_allocs (alloc_row x slot p k) rows)

abbrev pub with_plan_places : AcceptedPlan → State → State
with_plan_places p s = record s { allocs = with_places s.count 0 p p.places s.allocs }

abbrev pub planned : AcceptedPlan → State → State
planned p s = with_plan_places p (altered (stop p.stops) s)

-- ---- reports of a node's client

abbrev pub client_state_of : ReportedState → ClientState
client_state_of reported_states.Running = clients.Running
client_state_of reported_states.Complete = clients.Complete
client_state_of reported_states.Failed = clients.Failed

-- one report: a row on that node that is not final takes the state
abbrev pub told : ℕ → Report → Allocation → Allocation
told n r a =
    if same_alloc a.id r.id && nat_eq a.node n && is_active a.client then (record a { client = client_state_of r.state }) else a

-- the reports in their order
abbrev pub told_all : ℕ → List Report → Allocation → Allocation
told_all n [] a = a
told_all n (r ∷ rs) a = told_all n rs (told n r a)

-- the jobs of those that ended are touched
abbrev pub reported : ℕ → List Report → State → State
reported n rs s = evaluations_created (owns (is_ended_by (told_all n rs)) s.allocs) (altered (told_all n rs) s)

-- ---- the table: the state after a command

abbrev pub applied : State → Command → State
applied s commands.Noop = with_next_count s
applied s (commands.JobPut j) = evaluations_created (is_named j.name) (with_job_row j (with_next_count s))
applied s (commands.JobStop name) = evaluations_created (is_named name) (with_job_stopped name (with_next_count s))
applied s (commands.NodePut n) = node_put n (with_next_count s)
applied s (commands.NodeDown n) = node_down n (with_next_count s)
applied s (commands.Disconnect n) = disconnect n (with_next_count s)
applied s (commands.Drain n force) = drain_node n force (with_next_count s)
applied s (commands.DrainDone n) = drain_done n (with_next_count s)
applied s (commands.Migrate ids) = migrate ids (with_next_count s)
applied s (commands.EvalPut name) = evaluations_created (is_named name) (with_next_count s)
applied s (commands.EvalStatus id to) = set_eval_status id to (with_next_count s)
applied s (commands.Plan p) = planned p (with_next_count s)
applied s (commands.Report n rs) = reported n rs (with_next_count s)
