use Rattle.fsm_tables.specs.Runs.{rows_left}
use Rattle.sim_inspect.specs.Inner.StateRows.{IsNodeReport}
use Rattle.sim_inspect.proofs.Zips.{ZipsOn}
use Rattle.sim_inspect.proofs.states.nodes.Given as goal

abbrev pub invariant-loop-row : goal.invariant-loop-row
invariant-loop-row l = ZipsOn (IsNodeReport l.state) l.state.nodes (rows_left l.row-iterator) l.reports.items
