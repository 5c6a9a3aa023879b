-- What every state keeps: the order and the limits of its tables, and the ranges of its rows.
use Rattle.std.specs.Prelude.{ℕ, ◌≤◌, T, List, length, ◌^◌, ◌<◌}
use Rattle.std.specs.List.{AllByRecursion}
use Rattle.std.specs.Ordering.{nat_cmp}
use Rattle.std.specs.declared.cmp.Ordering.{Ordering}
use Rattle.rows.specs.Keys.{name_cmp, eval_cmp, alloc_cmp, job_name, node_number, eval_id, alloc_id}
use Rattle.rows.specs.Rising.{is_rising}
use Rattle.rows.specs.Limits.{most_jobs, most_nodes, most_evals, most_allocs}
use Rattle.rows.specs.State.{State}
use Rattle.rows.specs.Fits.{JobFits, NodeFits, EvaluationFits, AllocationFits}

pub record InOrder {K X : Type 0} (R : K → K → Ordering) (key : X → K) (most : ℕ) (rows : List X) : Type 0 where
  pub rising : T (is_rising R key rows)
  pub few : length rows ≤ most

-- each table has its rows in strictly rising key, and no more of them than its limit
pub record AreTables (s : State) : Type 0 where
  pub jobs : InOrder name_cmp job_name most_jobs s.jobs
  pub nodes : InOrder nat_cmp node_number most_nodes s.nodes
  pub evals : InOrder eval_cmp eval_id most_evals s.evals
  pub allocs : InOrder alloc_cmp alloc_id most_allocs s.allocs

-- every row is within its ranges
pub record AllFit (s : State) : Type 0 where
  pub jobs : AllByRecursion JobFits s.jobs
  pub nodes : AllByRecursion NodeFits s.nodes
  pub evals : AllByRecursion EvaluationFits s.evals
  pub allocs : AllByRecursion AllocationFits s.allocs

-- a state: its count is one that a log has places for, its tables are in order and within their
-- limits, and its rows within their ranges
pub record IsState (s : State) : Type 0 where
  pub count : s.count < 2 ^ 40
  pub tables : AreTables s
  pub rows : AllFit s
