use Rattle.std.proofs.Common.{◌∙◌, sym, Some, None}
use Rattle.fsm_tables.specs.Inner.Index.{current, is_current}
use Rattle.fsm_tables.specs.Inner.Keys.{least_id, greatest_id}
use Rattle.fsm_tables.proofs.Covers.{covers_exact, some_sorted}
use Rattle.fsm_tables.proofs.Entries.{first_listed}
use Rattle.fsm_tables.proofs.listing.first_under.Goals as goal

pub returns-in-Some : goal.returns-in-Some
returns-in-Some g c =
    let R = g.K.Ord.cmp in
    let o = g.met.K.Ord.total in
    let key_of = g.K.IndexKey.key_of in
    let rows = c.args.rows.now in
    let index = c.args.index.now in
    c.get.ensures
    ∙ first_listed R o key_of rows (current R key_of rows index) (covers_exact R o key_of rows index c.requires) c.args.key least_id greatest_id c.ranges-2.ensures.rising
    (some_sorted R o (is_current R key_of rows) index c.first_between.ensures.rising)
    (Some c.in-Some.id) (sym c.in-Some.is ∙ (rw (c.first.ensures, c.last.ensures) at c.first_between.ensures.first))

pub returns-in-None : goal.returns-in-None
returns-in-None g c =
    let R = g.K.Ord.cmp in
    let o = g.met.K.Ord.total in
    let key_of = g.K.IndexKey.key_of in
    let rows = c.args.rows.now in
    let index = c.args.index.now in
    first_listed R o key_of rows (current R key_of rows index) (covers_exact R o key_of rows index c.requires) c.args.key least_id greatest_id c.ranges-2.ensures.rising
    (some_sorted R o (is_current R key_of rows) index c.first_between.ensures.rising)
    None (sym c.in-None.is ∙ (rw (c.first.ensures, c.last.ensures) at c.first_between.ensures.first))
