use Rattle.std.proofs.Common.{◌≡◌, ◌∙◌, sym, subst, List, Result, Err, filter, rules}
use Rattle.rows.specs.declared.allocation.Allocation.{Allocation}
use Rattle.fsm_tables.specs.Lookups.{GivesRows}
use Rattle.fsm_tables.specs.Inner.Index.{current, is_between}
use Rattle.fsm_tables.proofs.Covers.{covers_exact}
use Rattle.fsm_tables.proofs.Entries.{ids_of_rows, some_listed}
use Rattle.fsm_tables.proofs.Filters.{rows_are_filtered}
use Rattle.fsm_tables.proofs.listing.rows_between.Goals as goal

pub returns : goal.returns
returns g c =
    let R = g.K.Ord.cmp in
    let o = g.met.K.Ord.total in
    let key_of = g.K.IndexKey.key_of in
    let rows = c.args.rows.now in
    let same = rows_are_filtered rows (is_between R key_of c.args.first c.args.last) c.in_ok-ids.ids.keys c.ranges-2.ensures.rising c.rows_of.ensures.rising
    (λ i. c.in_ok-ids.ensures.ids i ∙ ids_of_rows R o key_of rows (current R key_of rows c.args.index.now) (covers_exact R o key_of rows c.args.index.now c.requires) c.args.first c.args.last i) in
    subst (λ (xs : List Allocation). GivesRows c.rows_of.result xs) same c.rows_of.ensures.rows

pub returns-in_err-ids : goal.returns-in_err-ids
returns-in_err-ids g c =
    let R = g.K.Ord.cmp in
    let o = g.met.K.Ord.total in
    let key_of = g.K.IndexKey.key_of in
    let rows = c.args.rows.now in
    let some = some_listed R o key_of rows (current R key_of rows c.args.index.now) (covers_exact R o key_of rows c.args.index.now c.requires) c.args.first c.args.last c.in_err-ids.ensures.memory in
    let same : c.from_residual.result ≡ Err c.in_err-ids.field-0.0 = search rules in
    subst (λ (answer : Result (List Allocation) _). GivesRows answer (filter (is_between R key_of c.args.first c.args.last) rows)) (sym same) some
