use Rattle.std.proofs.Common.{◌≡◌, ◌&&◌}
use Rattle.rows.specs.Rising.{is_rising}
use Rattle.pages.specs.Runs.{rows_left}
use Rattle.fsm_tables.specs.declared.index.Entry.{Entry}
use Rattle.fsm_tables.specs.Inner.Index.{current}
use Rattle.fsm_tables.proofs.NamedOnce.{are_above}
use Rattle.fsm_tables.proofs.index.AllocIndex.has_keys_once.Given as goal

abbrev pub invariant-loop-entry : goal.invariant-loop-entry
invariant-loop-entry g l =
    let R = g.K.Ord.cmp in
    let left = current R g.K.IndexKey.key_of l.rows (rows_left l.entry-iterator) in
    (are_above R g.met.K.Ord.total l.last left && is_rising R (λ (e : Entry _). e.key) left) ≡ is_rising R (λ (e : Entry _). e.key) (current R g.K.IndexKey.key_of l.rows l.fn.self)
