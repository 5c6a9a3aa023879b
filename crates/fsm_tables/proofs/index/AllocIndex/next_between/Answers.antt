use Rattle.std.proofs.Common.{◌≡◌, ◌∙◌, List, true, false, ap, subst, sym, rules}
use Rattle.std.specs.Prelude.{option_map}
use Rattle.std.specs.List.{slice_get}
use Rattle.std.specs.Ordering.{is_lt}
use Rattle.pages.specs.Rows.{rows_from}
use Rattle.pages.specs.Runs.{rows_left}
use Rattle.fsm_tables.specs.declared.index.Entry.{Entry}
use Rattle.fsm_tables.specs.Inner.Index.{entry_cmp}
use Rattle.fsm_tables.proofs.Ranges.{IsLeft, listed, left_first, listed_from, listed_next, listed_past, is_between_them}
use Rattle.fsm_tables.proofs.index.AllocIndex.next_between.Goals as goal

pub loop-entry-init : goal.loop-entry-init
loop-entry-init g c =
    let R = g.K.Ord.cmp in
    let o = g.met.K.Ord.total in
    let key_of = g.K.IndexKey.key_of in
    let rows = c.args.rows.now in
    let lo = c.args.first in
    let hi = c.args.last in
    let all : rows_left c.into_iter-entry-iterator.result ≡ rows_from (entry_cmp R) (λ (e : Entry _). e) lo c.self.inside.entries = search rules in
    let rising = c.ranges-2.ensures.rising in
    record {
      walk = subst (IsLeft R o key_of rows lo hi) (sym all) (left_first R o key_of rows lo hi c.self.inside.entries rising);
      same = ap (listed R o key_of rows lo hi) all ∙ listed_from R o key_of rows lo hi c.self.inside.entries ∙ ap (listed R o key_of rows lo hi) c.self.view_is;
    }

pub returns-then-is_lt-clause-first : goal.returns-then-is_lt-clause-first
returns-then-is_lt-clause-first g c =
    let R = g.K.Ord.cmp in
    let o = g.met.K.Ord.total in
    let key_of = g.K.IndexKey.key_of in
    let rows = c.args.rows.now in
    let lo = c.args.first in
    let hi = c.args.last in
    let entry = c.in-Some.entry.now in
    let rest = rows_left c.next.new.self in
    let above : is_lt (entry_cmp R hi entry) ≡ true = ap is_lt (sym c.cmp.ensures) ∙ sym c.is_lt.ensures ∙ c.if-is_lt.true in
    let walk = subst (IsLeft R o key_of rows lo hi) c.in-Some.ensures.steps c.loop-entry.invariant.walk in
    let none = sym (listed_past R o key_of rows lo hi entry rest walk above) ∙ sym (ap (listed R o key_of rows lo hi) c.in-Some.ensures.steps) ∙ c.loop-entry.invariant.same in
    ap (λ (es : List (Entry _)). option_map (λ (e : Entry _). e.id) (slice_get es 0)) none

pub returns-then-is_current-clause-first : goal.returns-then-is_current-clause-first
returns-then-is_current-clause-first g c =
    let R = g.K.Ord.cmp in
    let o = g.met.K.Ord.total in
    let key_of = g.K.IndexKey.key_of in
    let rows = c.args.rows.now in
    let lo = c.args.first in
    let hi = c.args.last in
    let entry = c.in-Some.entry.now in
    let rest = rows_left c.next.new.self in
    let below : is_lt (entry_cmp R hi entry) ≡ false = ap is_lt (sym c.cmp.ensures) ∙ sym c.is_lt.ensures ∙ c.if-is_lt.false in
    let walk = subst (IsLeft R o key_of rows lo hi) c.in-Some.ensures.steps c.loop-entry.invariant.walk in
    let next = listed_next R o key_of rows lo hi entry rest (sym c.is_current.ensures ∙ c.if-is_current.true) (is_between_them R o key_of rows lo hi entry walk.from.0 below) in
    let one = sym next ∙ sym (ap (listed R o key_of rows lo hi) c.in-Some.ensures.steps) ∙ c.loop-entry.invariant.same in
    ap (λ (es : List (Entry _)). option_map (λ (e : Entry _). e.id) (slice_get es 0)) one
