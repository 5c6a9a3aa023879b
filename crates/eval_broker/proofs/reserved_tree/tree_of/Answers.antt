use Rattle.std.proofs.Common.{◌≡◌, ◌+◌, ◌<◌, ◌++◌, ◌∷◌, [], length, drop, T, sym, ap, subst, ◌∙◌, arith}
use Rattle.std.proofs.lemmas.List.{append_assoc, at_drop_more}
use Rattle.rows.specs.Rising.{is_rising}
use Rattle.fsm_tables.specs.Rows.{put}
use Rattle.eval_broker.proofs.Splits.{put_last}
use Rattle.eval_broker.proofs.reserved_tree.tree_of.Goals as goal

pub loop-row-preserved : goal.loop-row-preserved
loop-row-preserved g c =
    let R = g.T.Key.Ord.cmp in
    let key = g.T.Row.key_of in
    let all = c.args.rows.now in
    let i = c.loop-row.row-index in
    let row = c.row-item.result in
    let before = c.loop-row.tree.rows in
    let rest = drop (i + 1) all in
    let lt : i < length all = omega arith in
    let split : before ++ row ∷ rest ≡ all =
    ap (λ x. before ++ x ∷ rest) c.row-item.is ∙ sym (at_drop_more (λ zs. before ++ zs) all i row lt) ∙ c.loop-row.invariant in
    let rising = subst (λ zs. T (is_rising R key zs)) (sym split) c.requires in
    ap (λ zs. zs ++ rest) (c.put.ensures.rows ∙ ap (put R key row) c.make_space.ensures.rows ∙ put_last R key g.met.T.Key.Ord.total before row rest rising)
    ∙ append_assoc before (row ∷ []) rest ∙ split
