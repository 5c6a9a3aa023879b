-- The text of a state: the count of entries that were applied, and the four tables in rising key.
use Rattle.std.specs.Prelude.{ℕ, List}
use Rattle.std.specs.Ordering.{nat_cmp}
use Rattle.rows.specs.Rising.{is_behind}
use Rattle.rows.specs.Keys.{name_cmp, eval_cmp, alloc_cmp, job_name, node_number, eval_id, alloc_id}
use Rattle.rows.specs.State.{State}
use Rattle.rows.specs.declared.allocation.Allocation.{Allocation}
use Rattle.rows.specs.declared.evaluation.Evaluation.{Evaluation}
use Rattle.rows.specs.declared.job.Job.{Job}
use Rattle.rows.specs.declared.node.Node.{Node}
use Rattle.fields_model.specs.Format.{Format, made, ◌then◌, ruled_list}
use Rattle.fields_model.specs.Fields.{index}
use Rattle.fields_model.specs.Rows.{job, job_behind, node, node_behind, evaluation, evaluation_behind, allocation, allocation_behind}

-- at most 256 jobs by name, 64 nodes by number, 65,536 evaluations and 65,536 allocations by id
abbrev pub jobs : ℕ → Format (List Job)
jobs version = ruled_list 4 256 (λ front j. is_behind name_cmp job_name front j.name) (job version) (job_behind version)

abbrev pub nodes : ℕ → Format (List Node)
nodes version = ruled_list 4 64 (λ front n. is_behind nat_cmp node_number front n.number) (node version) (node_behind version)

abbrev pub evaluations : Format (List Evaluation)
evaluations = ruled_list 4 65536 (λ front e. is_behind eval_cmp eval_id front e.id) evaluation evaluation_behind

abbrev pub allocations : ℕ → Format (List Allocation)
allocations version = ruled_list 4 65536 (λ front a. is_behind alloc_cmp alloc_id front a.id) (allocation version) (allocation_behind version)

abbrev pub tables : ℕ → Format (List Job × (List Node × (List Evaluation × List Allocation)))
tables version = (jobs version) then (nodes version) then evaluations then (allocations version)

abbrev pub state : ℕ → Format State
state version = made (λ p. let t = p.1 in record { count = p.0; jobs = t.0; nodes = t.1.0; evals = t.1.1.0; allocs = t.1.1.1 })
    (λ s. (s.count, (s.jobs, (s.nodes, (s.evals, s.allocs))))) (index then (tables version))
