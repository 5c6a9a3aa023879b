use Rattle.std.proofs.Common.{T, Ok, subst, sym, ap, ◌∙◌}
use Rattle.pages.specs.Rows.{is_rising, without}
use Rattle.pages.specs.Positions.{PositionOf}
use Rattle.pages.proofs.Without.{rising_without, cut_found}
use Rattle.pages.proofs.page.PagePart.cut.Goals as goal

pub invariant_of-self : goal.invariant_of-self
invariant_of-self g c =
    let R = g.T.Key.Ord.cmp in
    let key = g.T.Row.key_of in
    let p = subst (λ zs. PositionOf R key c.args.key.now zs (Ok c.in-Ok.at)) c.deref.ensures.value c.in-Ok.ensures in
    subst (λ zs. T (is_rising R key zs)) (cut_found R key g.met.T.Key.Ord.total c.args.key.now c.self.inside.rows.items c.in-Ok.at c.remove.result c.self.invariant p ∙ sym c.remove.ensures.items)
    (rising_without R key g.met.T.Key.Ord.total c.args.key.now c.self.inside.rows.items c.self.invariant)

pub returns-in-Ok-clause-ok : goal.returns-in-Ok-clause-ok
returns-in-Ok-clause-ok g c =
    let R = g.T.Key.Ord.cmp in
    let key = g.T.Row.key_of in
    let p = subst (λ zs. PositionOf R key c.args.key.now zs (Ok c.in-Ok.at)) c.deref.ensures.value c.in-Ok.ensures in
    c.remove.ensures.items ∙ sym (cut_found R key g.met.T.Key.Ord.total c.args.key.now c.self.inside.rows.items c.in-Ok.at c.remove.result c.self.invariant p)
    ∙ ap (without R key c.args.key.now) c.self.view_is
