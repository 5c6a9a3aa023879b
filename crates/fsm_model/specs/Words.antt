-- The words in which the commands are told: look-ups of rows, and tests of them.
use Rattle.std.specs.Prelude.{ℕ, Bool, true, false, ◌&&◌, List, [], Option, Some, None, nat_eq, is_none}
use Rattle.std.specs.Ordering.{nat_cmp}
use Rattle.rows.specs.declared.job.Job.{Job}
use Rattle.rows.specs.declared.node.Node.{Node}
use Rattle.rows.specs.declared.node.DrainMode.{DrainMode}
use Rattle.rows.specs.declared.node.DrainMode.TheVariants as drains
use Rattle.rows.specs.declared.evaluation.EvalId.{EvalId}
use Rattle.rows.specs.declared.evaluation.EvalStatus.{EvalStatus}
use Rattle.rows.specs.declared.evaluation.EvalStatus.TheVariants as eval_statuses
use Rattle.rows.specs.declared.evaluation.Evaluation.{Evaluation}
use Rattle.rows.specs.declared.allocation.AllocId.{AllocId}
use Rattle.rows.specs.declared.allocation.Allocation.{Allocation}
use Rattle.rows.specs.Keys.{name_cmp, eval_cmp, alloc_cmp, job_name, node_number, eval_id, alloc_id}
pub use Rattle.rows.specs.State.{State}
use Rattle.fsm_tables.specs.Rows.{row_of}

-- the state before the first command
abbrev pub no_rows : State
no_rows = record { count = 0; jobs = []; nodes = []; evals = []; allocs = [] }

abbrev pub same_eval : EvalId → EvalId → Bool
same_eval a b = nat_eq a.index b.index && nat_eq a.slot b.slot

abbrev pub same_alloc : AllocId → AllocId → Bool
same_alloc a b = nat_eq a.index b.index && nat_eq a.slot b.slot

-- ---- look-ups

abbrev pub job_of : List ℕ → State → Option Job
job_of name s = row_of name_cmp job_name name s.jobs

abbrev pub node_of : ℕ → State → Option Node
node_of n s = row_of nat_cmp node_number n s.nodes

abbrev pub eval_of : EvalId → State → Option Evaluation
eval_of e s = row_of eval_cmp eval_id e s.evals

abbrev pub alloc_of : AllocId → State → Option Allocation
alloc_of a s = row_of alloc_cmp alloc_id a s.allocs

-- whether there is a row, and it passes the test
abbrev pub is_some_and : {X : Type 0} → (X → Bool) → Option X → Bool
is_some_and test None = false
is_some_and test (Some x) = test x

abbrev pub no_job : List ℕ → State → Bool
no_job name s = is_none (job_of name s)

abbrev pub no_node : ℕ → State → Bool
no_node n s = is_none (node_of n s)

abbrev pub no_alloc : AllocId → State → Bool
no_alloc a s = is_none (alloc_of a s)

-- ---- tests of rows

abbrev pub is_draining : DrainMode → Bool
is_draining drains.Off = false
is_draining _ = true

abbrev pub is_pending : EvalStatus → Bool
is_pending eval_statuses.Pending = true
is_pending _ = false

abbrev pub is_blocked : EvalStatus → Bool
is_blocked eval_statuses.Blocked = true
is_blocked _ = false

-- whether an evaluation's status is not final
abbrev pub is_open : EvalStatus → Bool
is_open eval_statuses.Pending = true
is_open eval_statuses.Blocked = true
is_open _ = false
