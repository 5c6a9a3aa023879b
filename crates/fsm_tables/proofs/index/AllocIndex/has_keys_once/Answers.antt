use Rattle.std.proofs.Common.{◌≡◌, ◌&&◌, ◌∙◌, List, ap, subst, sym}
use Rattle.rows.specs.Rising.{is_rising}
use Rattle.pages.specs.Runs.{rows_left}
use Rattle.fsm_tables.specs.declared.index.Entry.{Entry}
use Rattle.fsm_tables.specs.Inner.Index.{current}
use Rattle.fsm_tables.proofs.Covers.{current_next}
use Rattle.fsm_tables.proofs.NamedOnce.{are_above, walked}
use Rattle.fsm_tables.proofs.index.AllocIndex.has_keys_once.Goals as goal

pub loop-entry-preserved-then-is_current : goal.loop-entry-preserved-then-is_current
loop-entry-preserved-then-is_current g c =
    let R = g.K.Ord.cmp in
    let o = g.met.K.Ord.total in
    let key_of = g.K.IndexKey.key_of in
    let rows = c.args.rows.now in
    let entry = c.in-Some.entry.now in
    let rest = rows_left c.next.new.self in
    let next = ap (current R key_of rows) c.in-Some.ensures.steps ∙ current_next R o key_of rows entry rest (sym c.is_current.ensures ∙ c.if-is_current.true) in
    let all = is_rising R (λ (e : Entry _). e.key) (current R key_of rows c.args.self.now) in
    walked R o c.loop-entry.last entry (current R key_of rows rest) all
    (subst (λ (left : List (Entry _)). (are_above R o c.loop-entry.last left && is_rising R (λ (e : Entry _). e.key) left) ≡ all) next c.loop-entry.invariant)
    (sym c.is_above.ensures ∙ c.if-not-is_above.false)
