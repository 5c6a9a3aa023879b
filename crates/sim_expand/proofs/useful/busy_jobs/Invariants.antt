use Rattle.std.proofs.Common.{◌≡◌, ◌++◌}
use Rattle.fsm_tables.specs.Runs.{rows_left}
use Rattle.sim_expand.specs.Inner.Uses.{busy_jobs}
use Rattle.sim_expand.proofs.useful.busy_jobs.Given as goal

-- the jobs so far
abbrev pub invariant-loop-row : goal.invariant-loop-row
invariant-loop-row l = l.jobs.items ++ busy_jobs l.broker.tasks (rows_left l.row-iterator) ≡ busy_jobs l.broker.tasks l.state.evals
