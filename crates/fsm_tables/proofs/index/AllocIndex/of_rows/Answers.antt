use Rattle.std.proofs.Common.{List, Option, None, subst}
use Rattle.rows.specs.declared.allocation.Allocation.{Allocation}
use Rattle.pages.specs.Runs.{rows_left}
use Rattle.fsm_tables.specs.declared.index.Entry.{Entry}
use Rattle.fsm_tables.specs.Inner.Index.{Gains}
use Rattle.fsm_tables.proofs.Covers.{CoversBut, covers_step}
use Rattle.fsm_tables.proofs.index.AllocIndex.of_rows.Goals as goal

pub loop-row-preserved : goal.loop-row-preserved
loop-row-preserved g c =
    let R = g.K.Ord.cmp in
    let o = g.met.K.Ord.total in
    let key_of = g.K.IndexKey.key_of in
    let rows = c.args.rows.now in
    let old = c.loop-row.index in
    let new = c.add_unless.new.self in
    covers_step R o key_of rows (rows_left c.next.new.self) c.in-Some.row.now old new
    (subst (λ (left : List Allocation). CoversBut R o key_of left rows old) c.in-Some.ensures.steps c.loop-row.invariant)
    (subst (λ (z : Option (Entry _)). Gains R z None old new) c.entry_of.ensures c.in_ok-add_unless.ensures.ok)
