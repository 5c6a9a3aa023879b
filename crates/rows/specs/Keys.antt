-- What the rows of each table are found by, and how that is ordered.
use Rattle.std.specs.Prelude.{ℕ, List}
use Rattle.std.specs.declared.cmp.Ordering.{Ordering}
use Rattle.std.specs.Ordering.{nat_cmp, ordering_then}
use Rattle.std.specs.Cmp.Lexicographic.{slice_cmp}
use Rattle.rows.specs.declared.job.Job.{Job}
use Rattle.rows.specs.declared.node.Node.{Node}
use Rattle.rows.specs.declared.evaluation.EvalId.{EvalId}
use Rattle.rows.specs.declared.evaluation.Evaluation.{Evaluation}
use Rattle.rows.specs.declared.allocation.AllocId.{AllocId}
use Rattle.rows.specs.declared.allocation.Allocation.{Allocation}
pub use Rattle.rows.specs.Ids.{alloc_cmp}

-- names by their bytes
abbrev pub name_cmp : List ℕ → List ℕ → Ordering
name_cmp = slice_cmp nat_cmp

-- ids by the entry that made them, and then by their place in it
abbrev pub eval_cmp : EvalId → EvalId → Ordering
eval_cmp a b = ordering_then (nat_cmp a.index b.index) (nat_cmp a.slot b.slot)

abbrev pub job_name : Job → List ℕ
job_name j = j.name

abbrev pub node_number : Node → ℕ
node_number n = n.number

abbrev pub eval_id : Evaluation → EvalId
eval_id e = e.id

abbrev pub alloc_id : Allocation → AllocId
alloc_id a = a.id
