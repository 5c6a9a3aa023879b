-- The replicated state: how many entries were applied, and four tables, each in strictly rising
-- key.
use Rattle.std.specs.Prelude.{ℕ, List}
use Rattle.rows.specs.declared.job.Job.{Job}
use Rattle.rows.specs.declared.node.Node.{Node}
use Rattle.rows.specs.declared.evaluation.Evaluation.{Evaluation}
use Rattle.rows.specs.declared.allocation.Allocation.{Allocation}

pub record State : Type 0 where
  pub count : ℕ
  pub jobs : List Job
  pub nodes : List Node
  pub evals : List Evaluation
  pub allocs : List Allocation
