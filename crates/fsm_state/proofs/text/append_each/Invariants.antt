use Rattle.rows.specs.Versions.{newest}
use Rattle.fsm_tables.specs.Runs.{rows_left}
use Rattle.fsm_state.proofs.StateTexts.{WrittenBut}
use Rattle.fsm_state.proofs.text.append_each.Given as goal

abbrev pub invariant-loop-row : goal.invariant-loop-row
invariant-loop-row g l = WrittenBut (g.T.Field.format newest) (rows_left l.row-iterator) l.table l.fn.out.items l.out.items
