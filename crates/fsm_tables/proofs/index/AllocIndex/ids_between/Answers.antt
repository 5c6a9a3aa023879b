use Rattle.std.proofs.Common.{◌≡◌, ◌∙◌, List, true, false, ap, subst, sym, rules}
use Rattle.std.specs.Ordering.{is_lt}
use Rattle.std.specs.List.{list_any}
use Rattle.std.specs.BTreeMap.{is_at}
use Rattle.std.specs.BTreeSet.{contains}
use Rattle.rows.specs.Keys.{alloc_cmp}
use Rattle.pages.specs.Rows.{rows_from}
use Rattle.pages.specs.Runs.{rows_left}
use Rattle.fsm_tables.specs.declared.index.Entry.{Entry}
use Rattle.fsm_tables.specs.Inner.Index.{entry_cmp, current, has_id}
use Rattle.fsm_tables.proofs.Ranges.{IsLeft, listed, has_or, left_first, left_rest, listed_from, listed_next, listed_past, is_between_them, id_more, no_id_left, some_between}
use Rattle.fsm_tables.proofs.index.AllocIndex.ids_between.Goals as goal

pub loop-entry-init : goal.loop-entry-init
loop-entry-init g c =
    let R = g.K.Ord.cmp in
    let o = g.met.K.Ord.total in
    let key_of = g.K.IndexKey.key_of in
    let rows = c.args.rows.now in
    let lo = c.args.first in
    let hi = c.args.last in
    let all : rows_left c.into_iter-entry-iterator.result ≡ rows_from (entry_cmp R) (λ (e : Entry _). e) lo c.self.inside.entries = search rules in
    let rising = c.ranges-2.ensures.rising in
    let same = ap (listed R o key_of rows lo hi) all ∙ listed_from R o key_of rows lo hi c.self.inside.entries ∙ ap (listed R o key_of rows lo hi) c.self.view_is in
    record {
      walk = subst (IsLeft R o key_of rows lo hi) (sym all) (left_first R o key_of rows lo hi c.self.inside.entries rising);
      ids = λ i. ap (λ b. has_or R o key_of rows lo hi b (listed R o key_of rows lo hi (rows_left c.into_iter-entry-iterator.result)) i) (ap (list_any (is_at (alloc_cmp i))) c.new-ids.ensures.empty)
          ∙ ap (λ (es : List (Entry _)). has_or R o key_of rows lo hi false es i) same;
    }

pub returns-then-is_lt-clause-ids : goal.returns-then-is_lt-clause-ids
returns-then-is_lt-clause-ids g c = λ i.
    let R = g.K.Ord.cmp in
    let o = g.met.K.Ord.total in
    let key_of = g.K.IndexKey.key_of in
    let rows = c.args.rows.now in
    let lo = c.args.first in
    let hi = c.args.last in
    let entry = c.in-Some.entry.now in
    let rest = rows_left c.next.new.self in
    let above : is_lt (entry_cmp R hi entry) ≡ true = ap is_lt (sym c.cmp.ensures) ∙ sym c.is_lt.ensures ∙ c.if-is_lt.true in
    let walk = subst (IsLeft R o key_of rows lo hi) c.in-Some.ensures.steps c.loop-entry.invariant.walk in
    no_id_left R o key_of rows lo hi i (listed R o key_of rows lo hi (rows_left c.loop-entry.entry-iterator)) (contains alloc_cmp c.loop-entry.ids i) (has_id R lo hi (current R key_of rows c.args.self.now) i) (c.loop-entry.invariant.ids i)
    (ap (listed R o key_of rows lo hi) c.in-Some.ensures.steps ∙ listed_past R o key_of rows lo hi entry rest walk above)

pub loop-entry-preserved-in_ok-insert : goal.loop-entry-preserved-in_ok-insert
loop-entry-preserved-in_ok-insert g c =
    let R = g.K.Ord.cmp in
    let o = g.met.K.Ord.total in
    let key_of = g.K.IndexKey.key_of in
    let rows = c.args.rows.now in
    let lo = c.args.first in
    let hi = c.args.last in
    let entry = c.in-Some.entry.now in
    let rest = rows_left c.next.new.self in
    let below : is_lt (entry_cmp R hi entry) ≡ false = ap is_lt (sym c.cmp.ensures) ∙ sym c.is_lt.ensures ∙ c.if-is_lt.false in
    let walk = subst (IsLeft R o key_of rows lo hi) c.in-Some.ensures.steps c.loop-entry.invariant.walk in
    let next = ap (listed R o key_of rows lo hi) c.in-Some.ensures.steps ∙ listed_next R o key_of rows lo hi entry rest (sym c.is_current.ensures ∙ c.if-is_current.true) (is_between_them R o key_of rows lo hi entry walk.from.0 below) in
    record {
      walk = left_rest R o key_of rows lo hi entry rest walk;
      ids = λ i. id_more R o key_of rows lo hi i entry (listed R o key_of rows lo hi rest) (contains alloc_cmp c.loop-entry.ids i) (contains alloc_cmp c.insert.new.self i) (has_id R lo hi (current R key_of rows c.args.self.now) i)
          (sym (ap (λ (es : List (Entry _)). has_or R o key_of rows lo hi (contains alloc_cmp c.loop-entry.ids i) es i) next) ∙ c.loop-entry.invariant.ids i) (c.in_ok-insert.ensures.updates.0 i);
    }

pub returns-in_err-insert-clause-memory : goal.returns-in_err-insert-clause-memory
returns-in_err-insert-clause-memory g c =
    let R = g.K.Ord.cmp in
    let o = g.met.K.Ord.total in
    let key_of = g.K.IndexKey.key_of in
    let rows = c.args.rows.now in
    let lo = c.args.first in
    let hi = c.args.last in
    let entry = c.in-Some.entry.now in
    let rest = rows_left c.next.new.self in
    let below : is_lt (entry_cmp R hi entry) ≡ false = ap is_lt (sym c.cmp.ensures) ∙ sym c.is_lt.ensures ∙ c.if-is_lt.false in
    let walk = subst (IsLeft R o key_of rows lo hi) c.in-Some.ensures.steps c.loop-entry.invariant.walk in
    let next = ap (listed R o key_of rows lo hi) c.in-Some.ensures.steps ∙ listed_next R o key_of rows lo hi entry rest (sym c.is_current.ensures ∙ c.if-is_current.true) (is_between_them R o key_of rows lo hi entry walk.from.0 below) in
    let now = contains alloc_cmp c.loop-entry.ids entry.id in
    let some = some_between R o key_of rows lo hi entry (listed R o key_of rows lo hi rest) (listed R o key_of rows lo hi c.args.self.now) now
    (sym (ap (λ (es : List (Entry _)). has_or R o key_of rows lo hi now es entry.id) next) ∙ c.loop-entry.invariant.ids entry.id) in
    search (rules, some)
