use Rattle.std.proofs.Common.{◌≡◌, ◌∙◌, List, None, true, false, ap, sym}
use Rattle.std.specs.Prelude.{option_map}
use Rattle.std.specs.List.{slice_get}
use Rattle.std.specs.Ordering.{is_lt}
use Rattle.pages.specs.Rows.{rows_from}
use Rattle.fsm_tables.specs.declared.index.Entry.{Entry}
use Rattle.fsm_tables.specs.Inner.Index.{entry_cmp}
use Rattle.fsm_tables.proofs.Ranges.{listed, none_here, past_here, one_here}
use Rattle.fsm_tables.proofs.index.AllocIndex.first_between.Goals as goal

pub returns-in_default-clause-first : goal.returns-in_default-clause-first
returns-in_default-clause-first g c =
    let R = g.K.Ord.cmp in
    let o = g.met.K.Ord.total in
    let none : None ≡ slice_get (rows_from (entry_cmp R) (λ (e : Entry _). e) c.args.first c.self.inside.entries) 0 = sym (ap (option_map (λ e. e.now)) c.in_default.is) ∙ c.first_from.ensures in
    ap (λ (es : List (Entry _)). option_map (λ (e : Entry _). e.id) (slice_get es 0))
    (sym (none_here R o g.K.IndexKey.key_of c.args.rows.now c.args.first c.args.last c.self.inside.entries none)
    ∙ ap (listed R o g.K.IndexKey.key_of c.args.rows.now c.args.first c.args.last) c.self.view_is)

pub returns-then-is_lt-clause-first : goal.returns-then-is_lt-clause-first
returns-then-is_lt-clause-first g c =
    let R = g.K.Ord.cmp in
    let o = g.met.K.Ord.total in
    let entry = c.in-Some.entry.now in
    let there = sym (ap (option_map (λ e. e.now)) c.in-Some.is) ∙ c.first_from.ensures in
    let above : is_lt (entry_cmp R c.args.last entry) ≡ true = ap is_lt (sym c.cmp.ensures) ∙ sym c.is_lt.ensures ∙ c.if-is_lt.true in
    ap (λ (es : List (Entry _)). option_map (λ (e : Entry _). e.id) (slice_get es 0))
    (sym (past_here R o g.K.IndexKey.key_of c.args.rows.now c.args.first c.args.last entry c.self.inside.entries c.ranges-2.ensures.rising there above)
    ∙ ap (listed R o g.K.IndexKey.key_of c.args.rows.now c.args.first c.args.last) c.self.view_is)

pub returns-then-is_current-clause-first : goal.returns-then-is_current-clause-first
returns-then-is_current-clause-first g c =
    let R = g.K.Ord.cmp in
    let o = g.met.K.Ord.total in
    let entry = c.in-Some.entry.now in
    let there = sym (ap (option_map (λ e. e.now)) c.in-Some.is) ∙ c.first_from.ensures in
    let below : is_lt (entry_cmp R c.args.last entry) ≡ false = ap is_lt (sym c.cmp.ensures) ∙ sym c.is_lt.ensures ∙ c.if-is_lt.false in
    ap (option_map (λ (e : Entry _). e.id))
    (sym (one_here R o g.K.IndexKey.key_of c.args.rows.now c.args.first c.args.last entry c.self.inside.entries c.ranges-2.ensures.rising there below (sym c.is_current.ensures ∙ c.if-is_current.true))
    ∙ ap (λ (es : List (Entry _)). slice_get (listed R o g.K.IndexKey.key_of c.args.rows.now c.args.first c.args.last es) 0) c.self.view_is)
