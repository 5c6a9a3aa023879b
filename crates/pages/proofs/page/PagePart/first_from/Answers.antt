use Rattle.std.proofs.Common.{◌≡◌, ◌∙◌, ap}
use Rattle.std.specs.Prelude.{option_map}
use Rattle.std.specs.List.{slice_get}
use Rattle.pages.specs.Rows.{rows_from}
use Rattle.pages.specs.Inner.Below.{count_below}
use Rattle.pages.proofs.Below.{first_at, read_at}
use Rattle.pages.proofs.page.PagePart.first_from.Goals as goal

pub returns : goal.returns
returns g c =
    let R = g.T.Key.Ord.cmp in
    let key = g.T.Row.key_of in
    let o = g.met.T.Key.Ord.total in
    let k = c.args.key.now in
    let rows = c.self.inside.rows.items in
    let found = c.get.ensures.lookup in
    let got : option_map (λ row. row.now) c.get.result ≡ slice_get c.deref-2.result.now c.count_below-at.result = read_at R key o (λ row. row.now) _ c.get.result c.deref-2.result.now c.count_below-at.result found.3 found.1 in
    let at : c.count_below-at.result ≡ count_below R key k rows = c.count_below-at.ensures ∙ ap (count_below R key k) c.deref.ensures.value in
    got ∙ ap (λ xs. slice_get xs c.count_below-at.result) c.deref-2.ensures.value ∙ ap (slice_get rows) at
    ∙ first_at R key o k rows c.self.invariant ∙ ap (λ xs. slice_get (rows_from R key k xs) 0) c.self.view_is
