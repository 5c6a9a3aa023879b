use Rattle.pages.specs.Runs.{rows_left}
use Rattle.fsm_tables.proofs.Sums.{AreSummedBut}
use Rattle.fsm_tables.proofs.usage.sums_of.Given as goal

abbrev pub invariant-loop-row : goal.invariant-loop-row
invariant-loop-row l = AreSummedBut (rows_left l.row-iterator) l.rows l.sums
