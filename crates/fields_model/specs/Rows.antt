-- Groups and the rows of the four tables.
use Rattle.std.specs.Prelude.{ℕ, Bool, List, [], ◌∷◌}
use Rattle.std.specs.Ordering.{nat_cmp}
use Rattle.rows.specs.Rising.{is_behind}
use Rattle.rows.specs.Groups.{is_new_name, group_is_new}
use Rattle.rows.specs.Ids.{id_rises}
use Rattle.rows.specs.Keys.{name_cmp, eval_cmp, alloc_cmp, job_name, node_number, eval_id, alloc_id}
use Rattle.rows.specs.declared.allocation.AllocId.{AllocId}
use Rattle.rows.specs.declared.allocation.Allocation.{Allocation}
use Rattle.rows.specs.declared.allocation.ClientState.{ClientState}
use Rattle.rows.specs.declared.allocation.ClientState.TheVariants as clients
use Rattle.rows.specs.declared.allocation.Desired.{Desired}
use Rattle.rows.specs.declared.allocation.Desired.TheVariants as desires
use Rattle.rows.specs.declared.evaluation.EvalId.{EvalId}
use Rattle.rows.specs.declared.evaluation.EvalStatus.{EvalStatus}
use Rattle.rows.specs.declared.evaluation.EvalStatus.TheVariants as eval_statuses
use Rattle.rows.specs.declared.evaluation.Evaluation.{Evaluation}
use Rattle.rows.specs.declared.job.Group.{Group}
use Rattle.rows.specs.declared.job.Job.{Job}
use Rattle.rows.specs.declared.node.DrainMode.{DrainMode}
use Rattle.rows.specs.declared.node.DrainMode.TheVariants as drains
use Rattle.rows.specs.declared.node.Node.{Node}
use Rattle.rows.specs.declared.node.NodeStatus.{NodeStatus}
use Rattle.rows.specs.declared.node.NodeStatus.TheVariants as node_statuses
use Rattle.rows.specs.declared.size.Size.{Size}
use Rattle.fields_model.specs.Format.{Format, enumerated, known, keyed, keyed_behind, kept, ◌then◌, ruled_list, some}
use Rattle.fields_model.specs.Fields.{index, bool}
use Rattle.fields_model.specs.Ids.{name, size, node_id, ordinal, priority, group_count, evaluation_id, allocation_id}

-- one byte: 0 ready, 1 down, and from version 3 on 2 disconnected
abbrev pub code_of_node_status : NodeStatus → ℕ
code_of_node_status node_statuses.Ready = 0
code_of_node_status node_statuses.Down = 1
code_of_node_status node_statuses.Disconnected = 2

abbrev pub first_of_node_status : NodeStatus → ℕ
first_of_node_status node_statuses.Disconnected = 3
first_of_node_status _ = 1

abbrev pub node_status : ℕ → Format NodeStatus
node_status version = known first_of_node_status (enumerated 0 (node_statuses.Ready ∷ node_statuses.Down ∷ node_statuses.Disconnected ∷ []) code_of_node_status) version

-- one byte: 0 none, 1 slow, 2 force
abbrev pub code_of_drain_mode : DrainMode → ℕ
code_of_drain_mode drains.Off = 0
code_of_drain_mode drains.Slow = 1
code_of_drain_mode drains.Force = 2

abbrev pub drain_mode : Format DrainMode
drain_mode = enumerated 0 (drains.Off ∷ drains.Slow ∷ drains.Force ∷ []) code_of_drain_mode

-- one byte: 0 pending, 1 blocked, 2 complete, 3 failed
abbrev pub code_of_eval_status : EvalStatus → ℕ
code_of_eval_status eval_statuses.Pending = 0
code_of_eval_status eval_statuses.Blocked = 1
code_of_eval_status eval_statuses.Complete = 2
code_of_eval_status eval_statuses.Failed = 3

abbrev pub eval_status : Format EvalStatus
eval_status = enumerated 0 (eval_statuses.Pending ∷ eval_statuses.Blocked ∷ eval_statuses.Complete ∷ eval_statuses.Failed ∷ []) code_of_eval_status

-- one byte: 0 run, 1 stop
abbrev pub code_of_desired : Desired → ℕ
code_of_desired desires.Run = 0
code_of_desired desires.Stop = 1

abbrev pub desired : Format Desired
desired = enumerated 0 (desires.Run ∷ desires.Stop ∷ []) code_of_desired

-- one byte: 0 pending, 1 running, 2 complete, 3 failed, 4 lost
abbrev pub code_of_client_state : ClientState → ℕ
code_of_client_state clients.Pending = 0
code_of_client_state clients.Running = 1
code_of_client_state clients.Complete = 2
code_of_client_state clients.Failed = 3
code_of_client_state clients.Lost = 4
code_of_client_state clients.Unknown = 5

abbrev pub first_of_client_state : ClientState → ℕ
first_of_client_state clients.Unknown = 3
first_of_client_state _ = 1

abbrev pub client_state : ℕ → Format ClientState
client_state version = known first_of_client_state (enumerated 0 (clients.Pending ∷ clients.Running ∷ clients.Complete ∷ clients.Failed ∷ clients.Lost ∷ clients.Unknown ∷ []) code_of_client_state) version

-- a group: its name, count, class and size; among others its name is new
abbrev pub GroupOthers : Type 0
GroupOthers = ℕ × (List ℕ × Size)

abbrev pub make_group : List ℕ × GroupOthers → Group
make_group p = record { name = p.0; count = p.1.0; class = p.1.1.0; size = p.1.1.1 }

abbrev pub group_parts : Group → List ℕ × GroupOthers
group_parts g = (g.name, (g.count, (g.class, g.size)))

abbrev pub group_others : ℕ → Format GroupOthers
group_others version = group_count then name then (size version)

abbrev pub group : ℕ → Format Group
group version = keyed make_group group_parts name (group_others version)

abbrev pub group_behind : ℕ → List Group → Format Group
group_behind version = keyed_behind (is_new_name) make_group group_parts name (group_others version)

-- 1 to 8 groups with distinct names
abbrev pub groups : ℕ → Format (List Group)
groups version = some (ruled_list 1 8 group_is_new (group version) (group_behind version))

-- an id behind others that rise
abbrev pub allocation_id_behind : List AllocId → Format AllocId
allocation_id_behind front = kept (id_rises front) allocation_id

-- a job: its name, priority, whether it was stopped, its version and groups; in a table its name is
-- above the last
abbrev pub JobOthers : Type 0
JobOthers = ℕ × (Bool × (ℕ × List Group))

abbrev pub make_job : List ℕ × JobOthers → Job
make_job p = record { name = p.0; priority = p.1.0; stopped = p.1.1.0; version = p.1.1.1.0; groups = p.1.1.1.1 }

abbrev pub job_parts : Job → List ℕ × JobOthers
job_parts j = (j.name, (j.priority, (j.stopped, (j.version, j.groups))))

abbrev pub job_others : ℕ → Format JobOthers
job_others version = priority then bool then index then (groups version)

abbrev pub job : ℕ → Format Job
job version = keyed make_job job_parts name (job_others version)

abbrev pub job_behind : ℕ → List Job → Format Job
job_behind version = keyed_behind (is_behind name_cmp job_name) make_job job_parts name (job_others version)

-- a node: its number, class, size, status, whether it is eligible, its drain and room; in a table
-- its number is above the last
abbrev pub NodeOthers : Type 0
NodeOthers = List ℕ × (Size × (NodeStatus × (Bool × (DrainMode × ℕ))))

abbrev pub make_node : ℕ × NodeOthers → Node
make_node p = record { number = p.0; class = p.1.0; size = p.1.1.0; status = p.1.1.1.0; eligible = p.1.1.1.1.0; drain = p.1.1.1.1.1.0; room = p.1.1.1.1.1.1 }

abbrev pub node_parts : Node → ℕ × NodeOthers
node_parts n = (n.number, (n.class, (n.size, (n.status, (n.eligible, (n.drain, n.room))))))

abbrev pub node_end : ℕ → Format (NodeStatus × (Bool × (DrainMode × ℕ)))
node_end version = node_status version then bool then drain_mode then index

abbrev pub node_others : ℕ → Format NodeOthers
node_others version = name then (size version) then node_end version

abbrev pub node : ℕ → Format Node
node version = keyed make_node node_parts node_id (node_others version)

abbrev pub node_behind : ℕ → List Node → Format Node
node_behind version = keyed_behind (is_behind nat_cmp node_number) make_node node_parts node_id (node_others version)

-- an evaluation: its id, job, priority, status and snapshot; in a table its id is above the last
abbrev pub EvaluationOthers : Type 0
EvaluationOthers = List ℕ × (ℕ × (EvalStatus × ℕ))

abbrev pub make_evaluation : EvalId × EvaluationOthers → Evaluation
make_evaluation p = record { id = p.0; job = p.1.0; priority = p.1.1.0; status = p.1.1.1.0; snapshot = p.1.1.1.1 }

abbrev pub evaluation_parts : Evaluation → EvalId × EvaluationOthers
evaluation_parts e = (e.id, (e.job, (e.priority, (e.status, e.snapshot))))

abbrev pub evaluation_others : Format EvaluationOthers
evaluation_others = name then priority then eval_status then index

abbrev pub evaluation : Format Evaluation
evaluation = keyed make_evaluation evaluation_parts evaluation_id evaluation_others

abbrev pub evaluation_behind : List Evaluation → Format Evaluation
evaluation_behind = keyed_behind (is_behind eval_cmp eval_id) make_evaluation evaluation_parts evaluation_id evaluation_others

-- an allocation: its id, job, group, index, node, size, what is wanted and known of it, whether it
-- is to move, and its evaluation; in a table its id is above the last
abbrev pub AllocationOthers : Type 0
AllocationOthers = List ℕ × ((List ℕ × (ℕ × (ℕ × Size))) × (Desired × (ClientState × (Bool × EvalId))))

abbrev pub make_allocation : AllocId × AllocationOthers → Allocation
make_allocation p =
    let place = p.1.1.0 in
    let end = p.1.1.1 in
    record { id = p.0; job = p.1.0; group = place.0; index = place.1.0; node = place.1.1.0; size = place.1.1.1; desired = end.0; client = end.1.0; migrate = end.1.1.0; eval = end.1.1.1 }

abbrev pub allocation_parts : Allocation → AllocId × AllocationOthers
allocation_parts a = (a.id, (a.job, ((a.group, (a.index, (a.node, a.size))), (a.desired, (a.client, (a.migrate, a.eval))))))

abbrev pub allocation_place : ℕ → Format (List ℕ × (ℕ × (ℕ × Size)))
allocation_place version = name then ordinal then node_id then (size version)

abbrev pub allocation_end : ℕ → Format (Desired × (ClientState × (Bool × EvalId)))
allocation_end version = desired then client_state version then bool then evaluation_id

abbrev pub allocation_others : ℕ → Format AllocationOthers
allocation_others version = name then (allocation_place version) then allocation_end version

abbrev pub allocation : ℕ → Format Allocation
allocation version = keyed make_allocation allocation_parts allocation_id (allocation_others version)

abbrev pub allocation_behind : ℕ → List Allocation → Format Allocation
allocation_behind version = keyed_behind (is_behind alloc_cmp alloc_id) make_allocation allocation_parts allocation_id (allocation_others version)
