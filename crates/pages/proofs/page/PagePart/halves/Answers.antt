use Rattle.std.proofs.Common.{T, subst, sym, take, drop}
use Rattle.std.proofs.lemmas.List.{take-append-drop}
use Rattle.pages.specs.Rows.{is_rising}
use Rattle.pages.proofs.PartLaws.{rising_front, rising_back}
use Rattle.pages.proofs.page.PagePart.halves.Goals as goal

pub page_of-requires : goal.page_of-requires
page_of-requires g c =
    let R = g.T.Key.Ord.cmp in
    let key = g.T.Row.key_of in
    let n = c.if-at_end.middle in
    let all = subst (λ ys. T (is_rising R key ys)) (sym (take-append-drop n c.self.inside.rows.items)) c.self.invariant in
    rw (c.split_at.ensures.front, c.deref.ensures.value) (rising_front R key g.met.T.Key.Ord.total (take n c.self.inside.rows.items) (drop n c.self.inside.rows.items) all)

pub page_of-requires-2 : goal.page_of-requires-2
page_of-requires-2 g c =
    let R = g.T.Key.Ord.cmp in
    let key = g.T.Row.key_of in
    let n = c.if-at_end.middle in
    let all = subst (λ ys. T (is_rising R key ys)) (sym (take-append-drop n c.self.inside.rows.items)) c.self.invariant in
    rw (c.split_at.ensures.back, c.deref.ensures.value) (rising_back R key g.met.T.Key.Ord.total (take n c.self.inside.rows.items) (drop n c.self.inside.rows.items) all)
