use Rattle.std.proofs.Common.{◌≡◌, ◌++◌}
use Rattle.fsm_tables.specs.Inner.Index.{rows_at}
use Rattle.fsm_tables.proofs.listing.rows_of.Given as goal

abbrev pub invariant-loop-id : goal.invariant-loop-id
invariant-loop-id l = l.found ++ rows_at l.rows l.id-iterator ≡ rows_at l.rows l.fn.ids.keys
