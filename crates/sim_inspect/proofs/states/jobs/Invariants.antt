use Rattle.fsm_tables.specs.Runs.{rows_left}
use Rattle.sim_inspect.specs.Inner.StateRows.{IsJobReport}
use Rattle.sim_inspect.proofs.Zips.{ZipsOn}
use Rattle.sim_inspect.proofs.states.jobs.Given as goal

abbrev pub invariant-loop-row : goal.invariant-loop-row
invariant-loop-row l = ZipsOn IsJobReport l.state.jobs (rows_left l.row-iterator) l.reports.items
