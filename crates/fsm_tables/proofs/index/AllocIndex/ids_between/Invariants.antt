use Rattle.std.proofs.Common.{◌≡◌}
use Rattle.std.specs.BTreeSet.{contains}
use Rattle.rows.specs.declared.allocation.AllocId.{AllocId}
use Rattle.rows.specs.Keys.{alloc_cmp}
use Rattle.pages.specs.Runs.{rows_left}
use Rattle.fsm_tables.specs.Inner.Index.{current, has_id}
use Rattle.fsm_tables.proofs.Ranges.{IsLeft, listed, has_or}
use Rattle.fsm_tables.proofs.index.AllocIndex.ids_between.Given as goal

abbrev pub invariant-loop-entry : goal.invariant-loop-entry
invariant-loop-entry g l =
    let R = g.K.Ord.cmp in
    let o = g.met.K.Ord.total in
    let key_of = g.K.IndexKey.key_of in
    let left = rows_left l.entry-iterator in
    record {
      walk : IsLeft R o key_of l.rows l.fn.first l.fn.last left;
      ids : (i : AllocId) → has_or R o key_of l.rows l.fn.first l.fn.last (contains alloc_cmp l.ids i) (listed R o key_of l.rows l.fn.first l.fn.last left) i ≡ has_id R l.fn.first l.fn.last (current R key_of l.rows l.self) i;
    }
