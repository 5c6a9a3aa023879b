-- What is reported of a state's rows.
use Rattle.std.specs.Prelude.{◌≡◌, true, false, [], string_bytes}
use Rattle.std.specs.List.{AllZip}
use Rattle.rows.specs.declared.allocation.Allocation.{Allocation}
use Rattle.rows.specs.declared.evaluation.Evaluation.{Evaluation}
use Rattle.rows.specs.declared.job.Group.{Group}
use Rattle.rows.specs.declared.job.Job.{Job}
use Rattle.rows.specs.declared.node.Node.{Node}
use Rattle.fsm_tables.specs.Claims.{claims, used}
use Rattle.fsm_model.specs.Words.{State, is_open}
use Rattle.sim_labels.specs.Words.{alloc_text, client_word, desired_word, drain_word, eval_text, name_text, node_word, status_word}
use Rattle.sim_reports.specs.declared.report.AllocationReport.{AllocationReport}
use Rattle.sim_reports.specs.declared.report.EvaluationReport.{EvaluationReport}
use Rattle.sim_reports.specs.declared.report.GroupReport.{GroupReport}
use Rattle.sim_reports.specs.declared.report.JobReport.{JobReport}
use Rattle.sim_reports.specs.declared.report.NodeReport.{NodeReport}
use Rattle.sim_reports.specs.declared.report.StateReport.{StateReport}
use Rattle.sim_inspect.specs.Inner.Findings.{ArePlacements}

-- The report has what the row of a job's group has.
pub record IsGroupReport (row : Group) (report : GroupReport) : Type 0 where
  pub group : string_bytes report.group ≡ row.name
  pub count : report.count ≡ row.count
  pub class : string_bytes report.class ≡ row.class
  pub cpu : report.cpu ≡ row.size.cpu
  pub mem : report.mem ≡ row.size.mem
  pub disk : report.disk ≡ row.size.disk

-- The report has what a job's row has, and its groups in their order.
pub record IsJobReport (row : Job) (report : JobReport) : Type 0 where
  pub job : string_bytes report.job ≡ row.name
  pub priority : report.priority ≡ row.priority
  pub version : report.version ≡ row.version
  pub stopped : report.stopped ≡ row.stopped
  pub groups : AllZip IsGroupReport row.groups report.groups.items

-- The report has what a node's row has, in words, and what live allocations of the state use of it.
pub record IsNodeReport (state : State) (row : Node) (report : NodeReport) : Type 0 where
  pub node : report.node ≡ row.number
  pub class : string_bytes report.class ≡ row.class
  pub status : report.status.now ≡ node_word row.status
  pub eligible : report.eligible ≡ row.eligible
  pub drain : report.drain.now ≡ drain_word row.drain
  pub cpu : report.cpu ≡ row.size.cpu
  pub cpu_used : report.cpu_used ≡ (used row.number (claims state.allocs)).cpu
  pub mem : report.mem ≡ row.size.mem
  pub mem_used : report.mem_used ≡ (used row.number (claims state.allocs)).mem
  pub disk : report.disk ≡ row.size.disk
  pub disk_used : report.disk_used ≡ (used row.number (claims state.allocs)).disk

-- The report has what an evaluation's row has, in words; and of one that is pending or blocked what
-- a worker would find.
pub record IsEvaluationReport (state : State) (row : Evaluation) (report : EvaluationReport) : Type 0 where
  pub evaluation : string_bytes report.evaluation ≡ eval_text row.id
  pub job : string_bytes report.job ≡ row.job
  pub priority : report.priority ≡ row.priority
  pub status : report.status.now ≡ status_word row.status
  pub snapshot : report.snapshot ≡ row.snapshot
  pub found : is_open row.status ≡ true → ArePlacements state row report.groups.items
  pub over : is_open row.status ≡ false → report.groups.items ≡ []

-- The report has what an allocation's row has, in words.
pub record IsAllocationReport (row : Allocation) (report : AllocationReport) : Type 0 where
  pub allocation : string_bytes report.allocation ≡ alloc_text row.id
  pub name : string_bytes report.name ≡ name_text row
  pub node : report.node ≡ row.node
  pub cpu : report.cpu ≡ row.size.cpu
  pub mem : report.mem ≡ row.size.mem
  pub disk : report.disk ≡ row.size.disk
  pub desired : report.desired.now ≡ desired_word row.desired
  pub client : report.state.now ≡ client_word row.client
  pub migrate : report.migrate ≡ row.migrate
  pub evaluation : string_bytes report.evaluation ≡ eval_text row.eval

-- The report is of this state: after how many entries it is, and each row of each table.
pub record IsStateReport (state : State) (report : StateReport) : Type 0 where
  pub applied : report.applied ≡ state.count
  pub jobs : AllZip IsJobReport state.jobs report.jobs.items
  pub nodes : AllZip (IsNodeReport state) state.nodes report.nodes.items
  pub evaluations : AllZip (IsEvaluationReport state) state.evals report.evaluations.items
  pub allocations : AllZip IsAllocationReport state.allocs report.allocations.items
