-- What follows the key of a row.
use Rattle.std.specs.Prelude.{ℕ, List, Ok}
use Rattle.rows.specs.declared.allocation.AllocId.{AllocId}
use Rattle.rows.specs.declared.allocation.Allocation.{Allocation}
use Rattle.rows.specs.declared.evaluation.EvalId.{EvalId}
use Rattle.rows.specs.declared.evaluation.Evaluation.{Evaluation}
use Rattle.rows.specs.declared.job.Group.{Group}
use Rattle.rows.specs.declared.job.Job.{Job}
use Rattle.rows.specs.declared.node.Node.{Node}
use Rattle.fields_model.specs.Format.{Reading, ◌>>=◌, Format}
use Rattle.fields_model.specs.Rows.{make_group, group_others, make_job, job_others, make_node, node_others, make_evaluation, evaluation_others, make_allocation, allocation_others}

-- what follows a key that was read
abbrev pub after_key : {K R V : Type 0} → (K × R → V) → Format R → K → List ℕ → ℕ → Reading V
after_key make others key bytes at = others.read bytes at >>= λ r. Ok (make (key, r.0), r.1)

abbrev pub group_of : ℕ → List ℕ → List ℕ → ℕ → Reading Group
group_of version = after_key make_group (group_others version)

abbrev pub job_behind_key : ℕ → List ℕ → List ℕ → ℕ → Reading Job
job_behind_key version = after_key make_job (job_others version)

abbrev pub node_behind_key : ℕ → ℕ → List ℕ → ℕ → Reading Node
node_behind_key version = after_key make_node (node_others version)

abbrev pub evaluation_of : EvalId → List ℕ → ℕ → Reading Evaluation
evaluation_of = after_key make_evaluation evaluation_others

abbrev pub allocation_of : ℕ → AllocId → List ℕ → ℕ → Reading Allocation
allocation_of version = after_key make_allocation (allocation_others version)
