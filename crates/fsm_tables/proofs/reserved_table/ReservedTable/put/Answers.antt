use Rattle.std.proofs.Common.{T, subst, sym, is_ok}
use Rattle.rows.specs.Rising.{is_rising}
use Rattle.fsm_tables.proofs.RowLaws.{rising_put}
use Rattle.fsm_tables.proofs.ReservedTables.{either_rising}
use Rattle.fsm_tables.proofs.reserved_table.ReservedTable.put.Goals as goal

pub invariant_of-self : goal.invariant_of-self
invariant_of-self g c =
    let e = c.in-Ok.ensures in
    let p = rw c.deref.ensures.value at e.2 c.args.row (sym c.key.ensures) in
    subst (λ ys. T (is_rising g.T.Key.Ord.cmp g.T.Row.key_of ys)) p (rising_put g.T.Key.Ord.cmp g.T.Row.key_of g.met.T.Key.Ord.total c.args.row c.self.inside.rows.items c.self.invariant)

pub invariant_of-self-in-Err-2 : goal.invariant_of-self-in-Err-2
invariant_of-self-in-Err-2 g c =
    let R = g.T.Key.Ord.cmp in
    let key = g.T.Row.key_of in
    let e = c.in-Err.ensures in
    let p = rw c.deref.ensures.value at e.2 c.args.row (sym c.key.ensures) in
    let put = subst (λ ys. T (is_rising R key ys)) p (rising_put R key g.met.T.Key.Ord.total c.args.row c.self.inside.rows.items c.self.invariant) in
    subst (λ ys. T (is_rising R key ys)) (sym c.insert.ensures.items) (either_rising R key g.met.T.Key.Ord.total (is_ok c.insert.result) _ c.self.inside.rows.items put c.self.invariant)
