use Rattle.std.proofs.Common.{is_some, ◌≡◌, suc, ◌++◌, ◌∷◌, T, sym, ap, subst, ◌∙◌, arith, rules}
use Rattle.std.specs.Prelude.{◌||◌, max, nat_lt}
use Rattle.std.specs.declared.cmp.Ordering.TheVariants.{Less, Equal, Greater}
use Rattle.rows.specs.Rising.{is_rising}
use Rattle.fsm_tables.specs.Rows.{row_of, put}
use Rattle.fsm_tables.proofs.RowLaws.{second}
use Rattle.eval_broker.specs.Inner.Trees.{tree_rows, levels, IsBalanced, chain_length}
use Rattle.eval_broker.proofs.Splits.{rising_front, rising_back, row_of_left, row_of_right, put_left, put_middle, put_right}
use Rattle.eval_broker.proofs.tree.+put.Goals as goal

pub put-has_changed-requires : goal.put-has_changed-requires
put-has_changed-requires g t c κs within =
    let R = g.T.Key.Ord.cmp in
    let key = g.T.Row.key_of in
    let here = c.deref_mut.result.now in
    let high : levels c.args.tree.now ≡ suc (max (levels here.left) (levels here.right)) = search rules in
    let is : tree_rows c.args.tree.now ≡ tree_rows here.left ++ here.row ∷ tree_rows here.right = search rules in
    let rising = subst (λ zs. T (is_rising R key zs)) is c.requires.rising in
    let order : R (key c.args.row) (key here.row) ≡ Less = search rules in
    let sides : IsBalanced here.left = search rules in
    let found = ap (row_of R key (key c.args.row)) is ∙ row_of_left R key g.met.T.Key.Ord.total (key c.args.row) (tree_rows here.left) here.row (tree_rows here.right) rising order in (
      omega (arith, high),
      (
        within.0,
        (
          within.1,
          (
            rising_front R key (tree_rows here.left) (here.row ∷ tree_rows here.right) rising,
            (
              subst (λ o. T (is_some o || nat_lt 0 (chain_length c.args.spares.now))) found c.requires.spare,
              (sides, omega (arith, high, c.requires.low)),
            ),
          ),
        ),
      ),
    )

pub put-has_changed-requires-in-Greater : goal.put-has_changed-requires-in-Greater
put-has_changed-requires-in-Greater g t c κs within =
    let R = g.T.Key.Ord.cmp in
    let key = g.T.Row.key_of in
    let here = c.deref_mut-in-Greater.result.now in
    let high : levels c.args.tree.now ≡ suc (max (levels here.left) (levels here.right)) = search rules in
    let is : tree_rows c.args.tree.now ≡ tree_rows here.left ++ here.row ∷ tree_rows here.right = search rules in
    let rising = subst (λ zs. T (is_rising R key zs)) is c.requires.rising in
    let order : R (key c.args.row) (key here.row) ≡ Greater = search rules in
    let sides : IsBalanced here.right = search rules in
    let found = ap (row_of R key (key c.args.row)) is ∙ row_of_right R key g.met.T.Key.Ord.total (key c.args.row) (tree_rows here.left) here.row (tree_rows here.right) rising order in (
      omega (arith, high),
      (
        within.0,
        (
          within.1,
          (
            second _ _ (rising_back R key (tree_rows here.left) (here.row ∷ tree_rows here.right) rising),
            (
              subst (λ o. T (is_some o || nat_lt 0 (chain_length c.args.spares.now))) found c.requires.spare,
              (sides, omega (arith, high, c.requires.low)),
            ),
          ),
        ),
      ),
    )

pub returns-in-Less-clause-rows : goal.returns-in-Less-clause-rows
returns-in-Less-clause-rows g t c =
    let R = g.T.Key.Ord.cmp in
    let key = g.T.Row.key_of in
    let here = c.deref_mut.result.now in
    let is : tree_rows c.args.tree.now ≡ tree_rows here.left ++ here.row ∷ tree_rows here.right = search rules in
    let order : R (key c.args.row) (key here.row) ≡ Less = search rules in
    c.rebalance.ensures.rows ∙ ap (λ zs. zs ++ here.row ∷ tree_rows here.right) c.put-has_changed.ensures.rows
    ∙ sym (ap (put R key c.args.row) is ∙ put_left R key g.met.T.Key.Ord.total c.args.row (tree_rows here.left) here.row (tree_rows here.right) order)

pub returns-in-Equal-clause-rows : goal.returns-in-Equal-clause-rows
returns-in-Equal-clause-rows g t c =
    let R = g.T.Key.Ord.cmp in
    let key = g.T.Row.key_of in
    let here = c.deref_mut-in-Equal.result.now in
    let is : tree_rows c.args.tree.now ≡ tree_rows here.left ++ here.row ∷ tree_rows here.right = search rules in
    let rising = subst (λ zs. T (is_rising R key zs)) is c.requires.rising in
    let order : R (key c.args.row) (key here.row) ≡ Equal = search rules in
    sym (ap (put R key c.args.row) is ∙ put_middle R key g.met.T.Key.Ord.total c.args.row (tree_rows here.left) here.row (tree_rows here.right) rising order)

pub returns-in-Greater-clause-rows : goal.returns-in-Greater-clause-rows
returns-in-Greater-clause-rows g t c =
    let R = g.T.Key.Ord.cmp in
    let key = g.T.Row.key_of in
    let here = c.deref_mut-in-Greater.result.now in
    let is : tree_rows c.args.tree.now ≡ tree_rows here.left ++ here.row ∷ tree_rows here.right = search rules in
    let rising = subst (λ zs. T (is_rising R key zs)) is c.requires.rising in
    let order : R (key c.args.row) (key here.row) ≡ Greater = search rules in
    c.rebalance-in-Greater.ensures.rows ∙ ap (λ zs. tree_rows here.left ++ here.row ∷ zs) c.put-has_changed-in-Greater.ensures.rows
    ∙ sym (ap (put R key c.args.row) is ∙ put_right R key g.met.T.Key.Ord.total c.args.row (tree_rows here.left) here.row (tree_rows here.right) rising order)
