-- The rows of the four tables, each list in strictly rising key.
use Rattle.std.specs.Prelude.{ℕ, ◌≤◌, List, [], length, T}
use Rattle.std.specs.List.{AllByRecursion}
use Rattle.std.specs.declared.cmp.Ordering.{Ordering}
use Rattle.std.specs.Ordering.{nat_cmp}
use Rattle.rows.specs.declared.job.Job.{Job}
use Rattle.rows.specs.declared.node.Node.{Node}
use Rattle.rows.specs.declared.evaluation.Evaluation.{Evaluation}
use Rattle.rows.specs.declared.allocation.Allocation.{Allocation}
use Rattle.rows.specs.Fits.{JobFits, NodeFits, EvaluationFits, AllocationFits}
use Rattle.rows.specs.Keys.{name_cmp, eval_cmp, alloc_cmp, job_name, node_number, eval_id, alloc_id}
use Rattle.rows.specs.Rising.{is_rising}

pub record TableRows : Type 0 where
  pub jobs : List Job
  pub nodes : List Node
  pub evals : List Evaluation
  pub allocs : List Allocation

abbrev pub no_table_rows : TableRows
no_table_rows = record { jobs = []; nodes = []; evals = []; allocs = [] }

-- what one table keeps: strictly rising keys, its limit, and the ranges of its rows
pub record TableFits {K X : Type 0} (R : K → K → Ordering) (key : X → K) (Fits : X → Type 0) (most : ℕ) (rows : List X) : Type 0 where
  pub rising : T (is_rising R key rows)
  pub few : length rows ≤ most
  pub fit : AllByRecursion Fits rows

-- what the tables keep
pub record TablesFit (t : TableRows) : Type 0 where
  pub jobs : TableFits name_cmp job_name JobFits 256 t.jobs
  pub nodes : TableFits nat_cmp node_number NodeFits 64 t.nodes
  pub evals : TableFits eval_cmp eval_id EvaluationFits 65536 t.evals
  pub allocs : TableFits alloc_cmp alloc_id AllocationFits 65536 t.allocs
