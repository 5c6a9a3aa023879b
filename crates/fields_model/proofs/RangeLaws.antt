-- The values that have a text are those whose parts are within their limits: both ways.
use Rattle.std.proofs.Common.{ℕ, ◌≡◌, nat_le, Some, Bool, true, false, List, [], ◌∷◌, length, refl, sym, ◌∙◌, arith}
use Rattle.std.specs.Cmp.{IsTotalOrder, nat_cmp_total}
use Rattle.std.specs.Cmp.Lexicographic.{nat_list_cmp_total}
use Rattle.std.specs.List.{AllByRecursion}
use Rattle.std.specs.Ordering.{nat_cmp}
use Rattle.std.specs.declared.cmp.Ordering.{Ordering}
use Rattle.std.proofs.lemmas.Bool.{lt-ltb, ltb-true}
use Rattle.std.proofs.lemmas.Float.{T_from_true}
use Rattle.rows.specs.Versions.{newest}
use Rattle.rows.specs.Fits.{QuantityFits, SpaceFits, NodeIdFits, OrdinalFits, PriorityFits, GroupCountFits, SizeFits, EvalIdFits, AllocIdFits, TokenFits, GroupFits, GroupsFit, JobSpecFits, JobFits, NodeSpecFits, NodeFits, EvaluationFits, AllocationFits, StatusChangeFits, AcceptedPlaceFits, AcceptedPlanFits, ReportFits, ReportsFit, RisingIdsFit, CommandFits}
use Rattle.rows.proofs.KeyLaws.{eval_cmp_total, alloc_cmp_total}
use Rattle.rows.specs.Keys.{name_cmp, eval_cmp, alloc_cmp, job_name, node_number, eval_id, alloc_id}
use Rattle.rows.specs.Rising.{is_behind}
use Rattle.rows.proofs.RisingLaws.{keeps_rising}
use Rattle.rows.proofs.Truth.{is_true}
use Rattle.rows.specs.State.{State}
use Rattle.rows.specs.States.{InOrder, IsState}
use Rattle.rows.specs.declared.allocation.AllocId.{AllocId}
use Rattle.rows.specs.declared.allocation.Allocation.{Allocation}
use Rattle.rows.specs.declared.allocation.ClientState.{ClientState}
use Rattle.rows.specs.declared.allocation.ClientState.TheVariants as clients
use Rattle.rows.specs.declared.allocation.Desired.{Desired}
use Rattle.rows.specs.declared.allocation.Desired.TheVariants as desires
use Rattle.rows.specs.declared.command.AcceptedPlace.{AcceptedPlace}
use Rattle.rows.specs.declared.command.AcceptedPlan.{AcceptedPlan}
use Rattle.rows.specs.declared.command.Command.{Command}
use Rattle.rows.specs.declared.command.Command.TheVariants as commands
use Rattle.rows.specs.declared.command.Report.{Report}
use Rattle.rows.specs.declared.command.ReportedState.{ReportedState}
use Rattle.rows.specs.declared.command.ReportedState.TheVariants as reported
use Rattle.rows.specs.declared.command.StatusChange.{StatusChange}
use Rattle.rows.specs.declared.command.StatusChange.TheVariants as changes
use Rattle.rows.specs.declared.evaluation.EvalId.{EvalId}
use Rattle.rows.specs.declared.evaluation.EvalStatus.{EvalStatus}
use Rattle.rows.specs.declared.evaluation.EvalStatus.TheVariants as eval_statuses
use Rattle.rows.specs.declared.evaluation.Evaluation.{Evaluation}
use Rattle.rows.specs.declared.job.Group.{Group}
use Rattle.rows.specs.declared.job.Job.{Job}
use Rattle.rows.specs.declared.job.JobSpec.{JobSpec}
use Rattle.rows.specs.declared.node.DrainMode.{DrainMode}
use Rattle.rows.specs.declared.node.DrainMode.TheVariants as drains
use Rattle.rows.specs.declared.node.Node.{Node}
use Rattle.rows.specs.declared.node.NodeSpec.{NodeSpec}
use Rattle.rows.specs.declared.node.NodeStatus.{NodeStatus}
use Rattle.rows.specs.declared.node.NodeStatus.TheVariants as node_statuses
use Rattle.rows.specs.declared.size.Size.{Size}
use Rattle.rows.specs.declared.token.Token.{Token}
use Rattle.fields_model.specs.Format.{Format, absent, since, ruled_list}
use Rattle.fields_model.proofs.FormatLaws.{either_fits}
use Rattle.fields_model.specs.Fields.{bool}
use Rattle.fields_model.specs.Ids.{quantity, space, size, node_id, ordinal, priority, group_count, evaluation_id, allocation_id, token}
use Rattle.fields_model.specs.Rows.{node_status, drain_mode, eval_status, desired, client_state, group, groups, job, job_behind, node, node_behind, evaluation, evaluation_behind, allocation, allocation_behind}
use Rattle.fields_model.specs.Commands.{job_spec, node_spec, rising_ids, accepted_place, accepted_plan, reported_state, report, reports, status_change, command}
use Rattle.fields_model.specs.StateText.{jobs, nodes, evaluations, allocations, state}

-- ---- numbers, flags, codes

fits_quantity : (n : ℕ) → QuantityFits n → quantity.Fits n
fits_quantity n h = (h.0, omega (arith, h.1))

quantity_fits : (n : ℕ) → quantity.Fits n → QuantityFits n
quantity_fits n h = (h.0, omega (arith, h.1))

fits_node_id : (n : ℕ) → NodeIdFits n → node_id.Fits n
fits_node_id n h = (h.0, omega (arith, h.1))

node_id_fits : (n : ℕ) → node_id.Fits n → NodeIdFits n
node_id_fits n h = (h.0, omega (arith, h.1))

fits_ordinal : (n : ℕ) → OrdinalFits n → ordinal.Fits n
fits_ordinal n h = (omega arith, omega (arith, h))

ordinal_fits : (n : ℕ) → ordinal.Fits n → OrdinalFits n
ordinal_fits n h = omega (arith, h.1)

fits_priority : (n : ℕ) → PriorityFits n → priority.Fits n
fits_priority n h = (h.0, omega (arith, h.1))

priority_fits : (n : ℕ) → priority.Fits n → PriorityFits n
priority_fits n h = (h.0, omega (arith, h.1))

fits_group_count : (n : ℕ) → GroupCountFits n → group_count.Fits n
fits_group_count n h = (omega arith, omega (arith, h))

group_count_fits : (n : ℕ) → group_count.Fits n → GroupCountFits n
group_count_fits n h = omega (arith, h.1)

fits_bool : (b : Bool) → bool.Fits b
fits_bool true = ((omega arith, omega arith), refl)
fits_bool false = ((omega arith, omega arith), refl)

fits_node_status : (v : NodeStatus) → (node_status newest).Fits v
fits_node_status node_statuses.Ready = (((omega arith, omega arith), refl), refl)
fits_node_status node_statuses.Down = (((omega arith, omega arith), refl), refl)
fits_node_status node_statuses.Disconnected = (((omega arith, omega arith), refl), refl)

fits_drain_mode : (v : DrainMode) → drain_mode.Fits v
fits_drain_mode drains.Off = ((omega arith, omega arith), refl)
fits_drain_mode drains.Slow = ((omega arith, omega arith), refl)
fits_drain_mode drains.Force = ((omega arith, omega arith), refl)

fits_eval_status : (v : EvalStatus) → eval_status.Fits v
fits_eval_status eval_statuses.Pending = ((omega arith, omega arith), refl)
fits_eval_status eval_statuses.Blocked = ((omega arith, omega arith), refl)
fits_eval_status eval_statuses.Complete = ((omega arith, omega arith), refl)
fits_eval_status eval_statuses.Failed = ((omega arith, omega arith), refl)

fits_desired : (v : Desired) → desired.Fits v
fits_desired desires.Run = ((omega arith, omega arith), refl)
fits_desired desires.Stop = ((omega arith, omega arith), refl)

fits_client_state : (v : ClientState) → (client_state newest).Fits v
fits_client_state clients.Pending = (((omega arith, omega arith), refl), refl)
fits_client_state clients.Running = (((omega arith, omega arith), refl), refl)
fits_client_state clients.Complete = (((omega arith, omega arith), refl), refl)
fits_client_state clients.Failed = (((omega arith, omega arith), refl), refl)
fits_client_state clients.Lost = (((omega arith, omega arith), refl), refl)
fits_client_state clients.Unknown = (((omega arith, omega arith), refl), refl)

fits_reported_state : (v : ReportedState) → reported_state.Fits v
fits_reported_state reported.Running = ((omega arith, omega arith), refl)
fits_reported_state reported.Complete = ((omega arith, omega arith), refl)
fits_reported_state reported.Failed = ((omega arith, omega arith), refl)

-- ---- sizes, ids, tokens, groups

some_is : (a b : ℕ) → Some a ≡ Some b → a ≡ b
some_is a b e = cc

space_fits : (version n : ℕ) → (since 2 0 space version).Fits n → SpaceFits n
space_fits version n h =
    either_fits space (absent 0) (nat_le 2 version) n (SpaceFits n) (λ fits. omega (arith, fits.1)) (λ none. rw (sym (some_is 0 n none.1)) (omega arith)) h

fits_size : (z : Size) → SizeFits z → (size newest).Fits z
fits_size z h = (fits_quantity z.cpu h.0, (fits_quantity z.mem h.1, (omega arith, omega (arith, h.2))))

size_fits : (version : ℕ) (z : Size) → (size version).Fits z → SizeFits z
size_fits version z h = (quantity_fits z.cpu h.0, quantity_fits z.mem h.1.0, space_fits version z.disk h.1.1)

fits_eval_id : (e : EvalId) → EvalIdFits e → evaluation_id.Fits e
fits_eval_id e h = ((h.0.0, h.0.1), (omega arith, h.1))

eval_id_fits : (e : EvalId) → evaluation_id.Fits e → EvalIdFits e
eval_id_fits e h = ((h.0.0, h.0.1), h.1.1)

fits_alloc_id : (a : AllocId) → AllocIdFits a → allocation_id.Fits a
fits_alloc_id a h = ((h.0.0, h.0.1), fits_ordinal a.slot h.1)

alloc_id_fits : (a : AllocId) → allocation_id.Fits a → AllocIdFits a
alloc_id_fits a h = ((h.0.0, h.0.1), ordinal_fits a.slot h.1)

fits_token : (t : Token) → TokenFits t → token.Fits t
fits_token t h = ((h.0.0, h.0.1), (h.1.0, h.1.1))

token_fits : (t : Token) → token.Fits t → TokenFits t
token_fits t h = ((h.0.0, h.0.1), (h.1.0, h.1.1))

fits_group : (g : Group) → GroupFits g → (group newest).Fits g
fits_group g h = (h.0, (fits_group_count g.count h.1, (h.2, fits_size g.size h.3)))

group_fits : (version : ℕ) (g : Group) → (group version).Fits g → GroupFits g
group_fits version g h = (h.0, group_count_fits g.count h.1.0, h.1.1.0, size_fits version g.size h.1.1.1)

-- what holds of each item for one reason holds for another
all_by : {A : Type 0} (P Q : A → Type 0) → ((x : A) → P x → Q x) → (xs : List A) → AllByRecursion P xs → AllByRecursion Q xs
all_by P Q f [] h = tt
all_by P Q f (x ∷ xs) h = (f x h.0, all_by P Q f xs h.1)

fits_groups : (gs : List Group) → GroupsFit gs → (groups newest).Fits gs
fits_groups gs h = ((h.0.1, h.0.2, all_by GroupFits (group newest).Fits fits_group gs h.1), lt-ltb 0 (length gs) h.0.0)

groups_fits : (version : ℕ) (gs : List Group) → (groups version).Fits gs → GroupsFit gs
groups_fits version gs h = ((ltb-true 0 (length gs) h.1, h.0.0, h.0.1), all_by (group version).Fits GroupFits (group_fits version) gs h.0.2)

-- ---- rows

pub fits_job : (j : Job) → JobFits j → (job newest).Fits j
fits_job j h = (h.0, (fits_priority j.priority h.1, (fits_bool j.stopped, ((omega arith, h.2), fits_groups j.groups h.3))))

pub job_fits : (version : ℕ) (j : Job) → (job version).Fits j → JobFits j
job_fits version j h = (h.0, priority_fits j.priority h.1.0, h.1.1.1.0.1, groups_fits version j.groups h.1.1.1.1)

pub fits_node : (n : Node) → NodeFits n → (node newest).Fits n
fits_node n h = (fits_node_id n.number h.0, (h.1, (fits_size n.size h.2, (fits_node_status n.status, (fits_bool n.eligible, (fits_drain_mode n.drain, (omega arith, h.3)))))))

pub node_fits : (version : ℕ) (n : Node) → (node version).Fits n → NodeFits n
node_fits version n h = (node_id_fits n.number h.0, h.1.0, size_fits version n.size h.1.1.0, h.1.1.1.1.1.1.1)

pub fits_evaluation : (e : Evaluation) → EvaluationFits e → evaluation.Fits e
fits_evaluation e h = (fits_eval_id e.id h.0, (h.1, (fits_priority e.priority h.2, (fits_eval_status e.status, (omega arith, h.3)))))

pub evaluation_fits : (e : Evaluation) → evaluation.Fits e → EvaluationFits e
evaluation_fits e h = (eval_id_fits e.id h.0, h.1.0, priority_fits e.priority h.1.1.0, h.1.1.1.1.1)

pub fits_allocation : (a : Allocation) → AllocationFits a → (allocation newest).Fits a
fits_allocation a h =
    (fits_alloc_id a.id h.0, (h.1, ((h.2, (fits_ordinal a.index h.3, (fits_node_id a.node h.4, fits_size a.size h.5))), (fits_desired a.desired, (fits_client_state a.client, (fits_bool a.migrate, fits_eval_id a.eval h.6))))))

pub allocation_fits : (version : ℕ) (a : Allocation) → (allocation version).Fits a → AllocationFits a
allocation_fits version a h =
    let place = h.1.1.0 in
    (alloc_id_fits a.id h.0, h.1.0, place.0, ordinal_fits a.index place.1.0, node_id_fits a.node place.1.1.0, size_fits version a.size place.1.1.1, eval_id_fits a.eval h.1.1.1.1.1.1)

-- ---- tables and states

fits_table : {K X : Type 0} (most : ℕ) (R : K → K → Ordering) (o : IsTotalOrder R) (key : X → K) (Range : X → Type 0) (row : Format X) (behind : List X → Format X) → ((x : X) → Range x → row.Fits x) → (xs : List X)
    → InOrder R key most xs → AllByRecursion Range xs → (ruled_list 4 most (λ front x. is_behind R key front (key x)) row behind).Fits xs
fits_table most R o key Range row behind f xs h all = (h.few, keeps_rising R o key xs ∙ is_true _ h.rising, all_by Range row.Fits f xs all)

table_in_order : {K X : Type 0} (most : ℕ) (R : K → K → Ordering) (o : IsTotalOrder R) (key : X → K) (row : Format X) (behind : List X → Format X) (xs : List X)
    → (ruled_list 4 most (λ front x. is_behind R key front (key x)) row behind).Fits xs → InOrder R key most xs
table_in_order most R o key row behind xs h = record { rising = T_from_true _ (sym (keeps_rising R o key xs) ∙ h.1); few = h.0 }

pub jobs_in_order : (version : ℕ) (xs : List Job) → (jobs version).Fits xs → InOrder name_cmp job_name 256 xs
jobs_in_order version = table_in_order 256 name_cmp nat_list_cmp_total job_name (job version) (job_behind version)

pub nodes_in_order : (version : ℕ) (xs : List Node) → (nodes version).Fits xs → InOrder nat_cmp node_number 64 xs
nodes_in_order version = table_in_order 64 nat_cmp nat_cmp_total node_number (node version) (node_behind version)

pub evaluations_in_order : (xs : List Evaluation) → evaluations.Fits xs → InOrder eval_cmp eval_id 65536 xs
evaluations_in_order = table_in_order 65536 eval_cmp eval_cmp_total eval_id evaluation evaluation_behind

pub allocations_in_order : (version : ℕ) (xs : List Allocation) → (allocations version).Fits xs → InOrder alloc_cmp alloc_id 65536 xs
allocations_in_order version = table_in_order 65536 alloc_cmp alloc_cmp_total alloc_id (allocation version) (allocation_behind version)

pub fits_state : (s : State) → IsState s → (state newest).Fits s
fits_state s h = (
  (omega arith, h.count),
  (
    fits_table 256 name_cmp nat_list_cmp_total job_name JobFits (job newest) (job_behind newest) fits_job s.jobs h.tables.jobs h.rows.jobs,
    (
      fits_table 64 nat_cmp nat_cmp_total node_number NodeFits (node newest) (node_behind newest) fits_node s.nodes h.tables.nodes h.rows.nodes,
      (
        fits_table 65536 eval_cmp eval_cmp_total eval_id EvaluationFits evaluation evaluation_behind fits_evaluation s.evals h.tables.evals h.rows.evals,
        fits_table 65536 alloc_cmp alloc_cmp_total alloc_id AllocationFits (allocation newest) (allocation_behind newest) fits_allocation s.allocs h.tables.allocs h.rows.allocs,
      ),
    ),
  ),
)

pub state_fits : (version : ℕ) (s : State) → (state version).Fits s → IsState s
state_fits version s h = record {
  count = h.0.1;
  tables = record {
    jobs = jobs_in_order version s.jobs h.1.0;
    nodes = nodes_in_order version s.nodes h.1.1.0;
    evals = evaluations_in_order s.evals h.1.1.1.0;
    allocs = allocations_in_order version s.allocs h.1.1.1.1;
  };
  rows = record {
    jobs = all_by (job version).Fits JobFits (job_fits version) s.jobs h.1.0.2;
    nodes = all_by (node version).Fits NodeFits (node_fits version) s.nodes h.1.1.0.2;
    evals = all_by evaluation.Fits EvaluationFits evaluation_fits s.evals h.1.1.1.0.2;
    allocs = all_by (allocation version).Fits AllocationFits (allocation_fits version) s.allocs h.1.1.1.1.2;
  };
}

-- ---- commands

fits_job_spec : (j : JobSpec) → JobSpecFits j → (job_spec newest).Fits j
fits_job_spec j h = (h.0, (fits_priority j.priority h.1, fits_groups j.groups h.2))

job_spec_fits : (version : ℕ) (j : JobSpec) → (job_spec version).Fits j → JobSpecFits j
job_spec_fits version j h = (h.0, priority_fits j.priority h.1.0, groups_fits version j.groups h.1.1)

fits_node_spec : (n : NodeSpec) → NodeSpecFits n → (node_spec newest).Fits n
fits_node_spec n h = (fits_node_id n.number h.0, (h.1, fits_size n.size h.2))

node_spec_fits : (version : ℕ) (n : NodeSpec) → (node_spec version).Fits n → NodeSpecFits n
node_spec_fits version n h = (node_id_fits n.number h.0, h.1.0, size_fits version n.size h.1.1)

fits_rising_ids : (ids : List AllocId) → RisingIdsFit ids → rising_ids.Fits ids
fits_rising_ids ids h = ((h.0.1, h.0.2, all_by AllocIdFits allocation_id.Fits fits_alloc_id ids h.1), lt-ltb 0 (length ids) h.0.0)

rising_ids_fits : (ids : List AllocId) → rising_ids.Fits ids → RisingIdsFit ids
rising_ids_fits ids h = ((ltb-true 0 (length ids) h.1, h.0.0, h.0.1), all_by allocation_id.Fits AllocIdFits alloc_id_fits ids h.0.2)

fits_accepted_place : (x : AcceptedPlace) → AcceptedPlaceFits x → (accepted_place newest).Fits x
fits_accepted_place x h = (h.0, (fits_ordinal x.index h.1, (fits_node_id x.node h.2, fits_size x.size h.3)))

accepted_place_fits : (version : ℕ) (x : AcceptedPlace) → (accepted_place version).Fits x → AcceptedPlaceFits x
accepted_place_fits version x h = (h.0, ordinal_fits x.index h.1.0, node_id_fits x.node h.1.1.0, size_fits version x.size h.1.1.1)

fits_accepted_plan : (x : AcceptedPlan) → AcceptedPlanFits x → (accepted_plan newest).Fits x
fits_accepted_plan x h =
    (fits_eval_id x.eval h.0, (fits_token x.token h.1, (h.2, ((omega arith, h.3), ((h.4.0, all_by AllocIdFits allocation_id.Fits fits_alloc_id x.stops h.4.1), (h.5.0, all_by AcceptedPlaceFits (accepted_place newest).Fits fits_accepted_place x.places h.5.1))))))

accepted_plan_fits : (version : ℕ) (x : AcceptedPlan) → (accepted_plan version).Fits x → AcceptedPlanFits x
accepted_plan_fits version x h =
    let end = h.1.1.1 in
    (eval_id_fits x.eval h.0, token_fits x.token h.1.0, h.1.1.0, end.0.1, (end.1.0.0, all_by allocation_id.Fits AllocIdFits alloc_id_fits x.stops end.1.0.1), (end.1.1.0, all_by (accepted_place version).Fits AcceptedPlaceFits (accepted_place_fits version) x.places end.1.1.1))

fits_report : (r : Report) → ReportFits r → report.Fits r
fits_report r h = (fits_alloc_id r.id h, fits_reported_state r.state)

report_fits : (r : Report) → report.Fits r → ReportFits r
report_fits r h = alloc_id_fits r.id h.0

fits_reports : (rs : List Report) → ReportsFit rs → reports.Fits rs
fits_reports rs h = ((h.1.0, all_by ReportFits report.Fits fits_report rs h.1.1), lt-ltb 0 (length rs) h.0)

reports_fits : (rs : List Report) → reports.Fits rs → ReportsFit rs
reports_fits rs h = (ltb-true 0 (length rs) h.1, (h.0.0, all_by report.Fits ReportFits report_fits rs h.0.1))

fits_status_change : (c : StatusChange) → StatusChangeFits c → status_change.Fits c
fits_status_change changes.Pending h = (fits_eval_status eval_statuses.Pending, (omega arith, omega arith))
fits_status_change (changes.Blocked snapshot) h = (fits_eval_status eval_statuses.Blocked, (omega arith, h))
fits_status_change changes.Complete h = (fits_eval_status eval_statuses.Complete, (omega arith, omega arith))
fits_status_change changes.Failed h = (fits_eval_status eval_statuses.Failed, (omega arith, omega arith))

status_change_fits : (c : StatusChange) → status_change.Fits c → StatusChangeFits c
status_change_fits changes.Pending h = tt
status_change_fits (changes.Blocked snapshot) h = h.1.1
status_change_fits changes.Complete h = tt
status_change_fits changes.Failed h = tt

pub fits_command : (c : Command) → CommandFits c → (command newest).Fits c
fits_command commands.Noop h = ((omega arith, omega arith), tt)
fits_command (commands.JobPut job) h = ((omega arith, omega arith), fits_job_spec job h)
fits_command (commands.JobStop name) h = ((omega arith, omega arith), h)
fits_command (commands.NodePut node) h = ((omega arith, omega arith), fits_node_spec node h)
fits_command (commands.NodeDown node) h = ((omega arith, omega arith), fits_node_id node h)
fits_command (commands.Disconnect node) h = ((omega arith, omega arith), fits_node_id node h)
fits_command (commands.Drain node force) h = ((omega arith, omega arith), (fits_node_id node h, fits_bool force))
fits_command (commands.DrainDone node) h = ((omega arith, omega arith), fits_node_id node h)
fits_command (commands.Migrate ids) h = ((omega arith, omega arith), fits_rising_ids ids h)
fits_command (commands.EvalPut name) h = ((omega arith, omega arith), h)
fits_command (commands.EvalStatus eval change) h = ((omega arith, omega arith), (fits_eval_id eval h.0, fits_status_change change h.1))
fits_command (commands.Plan plan) h = ((omega arith, omega arith), fits_accepted_plan plan h)
fits_command (commands.Report node items) h = ((omega arith, omega arith), (fits_node_id node h.0, fits_reports items h.1))

pub command_fits : (version : ℕ) (c : Command) → (command version).Fits c → CommandFits c
command_fits version commands.Noop h = tt
command_fits version (commands.JobPut job) h = job_spec_fits version job h.1
command_fits version (commands.JobStop name) h = h.1
command_fits version (commands.NodePut node) h = node_spec_fits version node h.1
command_fits version (commands.NodeDown node) h = node_id_fits node h.1
command_fits version (commands.Disconnect node) h = node_id_fits node h.1
command_fits version (commands.Drain node force) h = node_id_fits node h.1.0
command_fits version (commands.DrainDone node) h = node_id_fits node h.1
command_fits version (commands.Migrate ids) h = rising_ids_fits ids h.1
command_fits version (commands.EvalPut name) h = h.1
command_fits version (commands.EvalStatus eval change) h = (eval_id_fits eval h.1.0, status_change_fits change h.1.1)
command_fits version (commands.Plan plan) h = accepted_plan_fits version plan h.1
command_fits version (commands.Report node items) h = (node_id_fits node h.1.0, reports_fits items h.1.1)
