use Rattle.pages.specs.Runs.{rows_left}
use Rattle.fsm_tables.proofs.Covers.{CoversBut}
use Rattle.fsm_tables.proofs.index.AllocIndex.of_rows.Given as goal

abbrev pub invariant-loop-row : goal.invariant-loop-row
invariant-loop-row g l = CoversBut g.K.Ord.cmp g.met.K.Ord.total g.K.IndexKey.key_of (rows_left l.row-iterator) l.rows l.index
