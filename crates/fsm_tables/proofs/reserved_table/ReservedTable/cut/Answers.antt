use Rattle.std.proofs.Common.{◌≡◌, T, subst, sym, ap, ◌∙◌, Ok, Err}
use Rattle.rows.specs.Rising.{is_rising}
use Rattle.pages.specs.Positions.{PositionOf}
use Rattle.fsm_tables.specs.ReservedTables.{Stock, without}
use Rattle.fsm_tables.proofs.ReservedTables.{rising_without}
use Rattle.fsm_tables.proofs.ReservedTables.{cut_found, cut_missed}
use Rattle.fsm_tables.proofs.reserved_table.ReservedTable.cut.Goals as goal

pub invariant_of-self : goal.invariant_of-self
invariant_of-self g c =
    let R = g.T.Key.Ord.cmp in
    let key = g.T.Row.key_of in
    let p = subst (λ zs. PositionOf R key c.args.key.now zs (Ok c.in-Ok.at)) c.deref.ensures.value c.in-Ok.ensures in
    subst (λ zs. T (is_rising R key zs)) (cut_found R key g.met.T.Key.Ord.total c.args.key.now c.self.inside.rows.items c.in-Ok.at c.remove.result c.self.invariant p ∙ sym c.remove.ensures.items)
    (rising_without R key g.met.T.Key.Ord.total c.args.key.now c.self.inside.rows.items c.self.invariant)

pub returns-in-Ok-clause-rows : goal.returns-in-Ok-clause-rows
returns-in-Ok-clause-rows g c =
    let R = g.T.Key.Ord.cmp in
    let key = g.T.Row.key_of in
    let p = subst (λ zs. PositionOf R key c.args.key.now zs (Ok c.in-Ok.at)) c.deref.ensures.value c.in-Ok.ensures in
    c.remove.ensures.items ∙ sym (cut_found R key g.met.T.Key.Ord.total c.args.key.now c.self.inside.rows.items c.in-Ok.at c.remove.result c.self.invariant p)
    ∙ ap (λ (s : Stock _). without R key c.args.key.now s.rows) c.self.view_is

pub returns-in_default-clause-rows : goal.returns-in_default-clause-rows
returns-in_default-clause-rows g c =
    let R = g.T.Key.Ord.cmp in
    let key = g.T.Row.key_of in
    let p = subst (λ zs. PositionOf R key c.args.key.now zs (Err c.in_default.field-0)) c.deref.ensures.value c.in_default.ensures in
    subst (λ (s : Stock _). s.rows ≡ without R key c.args.key.now s.rows) c.self.view_is (sym (cut_missed R key g.met.T.Key.Ord.total c.args.key.now c.self.inside.rows.items c.in_default.field-0 p))
