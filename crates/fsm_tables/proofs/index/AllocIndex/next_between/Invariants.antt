use Rattle.std.proofs.Common.{◌≡◌}
use Rattle.pages.specs.Runs.{rows_left}
use Rattle.fsm_tables.proofs.Ranges.{IsLeft, listed}
use Rattle.fsm_tables.proofs.index.AllocIndex.next_between.Given as goal

abbrev pub invariant-loop-entry : goal.invariant-loop-entry
invariant-loop-entry g l =
    let R = g.K.Ord.cmp in
    let o = g.met.K.Ord.total in
    let key_of = g.K.IndexKey.key_of in
    let left = rows_left l.entry-iterator in
    record {
      walk : IsLeft R o key_of l.rows l.fn.first l.fn.last left;
      same : listed R o key_of l.rows l.fn.first l.fn.last left ≡ listed R o key_of l.rows l.fn.first l.fn.last l.self;
    }
