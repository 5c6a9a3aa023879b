use Rattle.std.proofs.Common.{◌≡◌, suc, ◌++◌, ◌∷◌, T, sym, ap, subst, ◌∙◌, arith, rules}
use Rattle.std.specs.Prelude.{max}
use Rattle.std.specs.declared.cmp.Ordering.TheVariants.{Less, Equal, Greater}
use Rattle.rows.specs.Rising.{is_rising}
use Rattle.fsm_tables.specs.ReservedTables.{without}
use Rattle.fsm_tables.proofs.RowLaws.{second}
use Rattle.eval_broker.specs.Inner.Trees.{tree_rows, levels, IsBalanced}
use Rattle.eval_broker.proofs.Splits.{rising_front, rising_back, without_left, without_middle, without_right}
use Rattle.eval_broker.proofs.tree.+cut.Goals as goal

pub cut-has_changed-requires : goal.cut-has_changed-requires
cut-has_changed-requires g t c κs within =
    let R = g.T.Key.Ord.cmp in
    let key = g.T.Row.key_of in
    let here = c.deref_mut.result.now in
    let high : levels c.args.tree.now ≡ suc (max (levels here.left) (levels here.right)) = search rules in
    let is : tree_rows c.args.tree.now ≡ tree_rows here.left ++ here.row ∷ tree_rows here.right = search rules in
    let rising = subst (λ zs. T (is_rising R key zs)) is c.requires.rising in
    let sides : IsBalanced here.left = search rules in
    (omega (arith, high), (within.0, (within.1, (rising_front R key (tree_rows here.left) (here.row ∷ tree_rows here.right) rising, (sides, omega (arith, high, c.requires.low))))))

pub cut-has_changed-requires-in-Greater : goal.cut-has_changed-requires-in-Greater
cut-has_changed-requires-in-Greater g t c κs within =
    let R = g.T.Key.Ord.cmp in
    let key = g.T.Row.key_of in
    let here = c.deref_mut-in-Greater.result.now in
    let high : levels c.args.tree.now ≡ suc (max (levels here.left) (levels here.right)) = search rules in
    let is : tree_rows c.args.tree.now ≡ tree_rows here.left ++ here.row ∷ tree_rows here.right = search rules in
    let rising = rising_back R key (tree_rows here.left) (here.row ∷ tree_rows here.right) (subst (λ zs. T (is_rising R key zs)) is c.requires.rising) in
    let sides : IsBalanced here.right = search rules in
    (omega (arith, high), (within.0, (within.1, (second _ _ rising, (sides, omega (arith, high, c.requires.low))))))

pub returns-in-Less-clause-rows : goal.returns-in-Less-clause-rows
returns-in-Less-clause-rows g t c =
    let R = g.T.Key.Ord.cmp in
    let key = g.T.Row.key_of in
    let here = c.deref_mut.result.now in
    let is : tree_rows c.args.tree.now ≡ tree_rows here.left ++ here.row ∷ tree_rows here.right = search rules in
    let rising = subst (λ zs. T (is_rising R key zs)) is c.requires.rising in
    let order : R c.args.key.now (key here.row) ≡ Less = search rules in
    c.rebalance.ensures.rows ∙ ap (λ zs. zs ++ here.row ∷ tree_rows here.right) c.cut-has_changed.ensures.rows
    ∙ sym (ap (without R key c.args.key.now) is ∙ without_left R key g.met.T.Key.Ord.total c.args.key.now (tree_rows here.left) here.row (tree_rows here.right) rising order)

pub returns-in-Equal-clause-rows : goal.returns-in-Equal-clause-rows
returns-in-Equal-clause-rows g t c =
    let R = g.T.Key.Ord.cmp in
    let key = g.T.Row.key_of in
    let here = c.in-Fork.branch.value in
    let is : tree_rows c.args.tree.now ≡ tree_rows here.left ++ here.row ∷ tree_rows here.right = search rules in
    let rising = subst (λ zs. T (is_rising R key zs)) is c.requires.rising in
    let order : R c.args.key.now (key here.row) ≡ Equal = search rules in
    c.cut_top.ensures.rows
    ∙ sym (ap (without R key c.args.key.now) is ∙ without_middle R key g.met.T.Key.Ord.total c.args.key.now (tree_rows here.left) here.row (tree_rows here.right) rising order)

pub returns-in-Greater-clause-rows : goal.returns-in-Greater-clause-rows
returns-in-Greater-clause-rows g t c =
    let R = g.T.Key.Ord.cmp in
    let key = g.T.Row.key_of in
    let here = c.deref_mut-in-Greater.result.now in
    let is : tree_rows c.args.tree.now ≡ tree_rows here.left ++ here.row ∷ tree_rows here.right = search rules in
    let rising = subst (λ zs. T (is_rising R key zs)) is c.requires.rising in
    let order : R c.args.key.now (key here.row) ≡ Greater = search rules in
    c.rebalance-in-Greater.ensures.rows ∙ ap (λ zs. tree_rows here.left ++ here.row ∷ zs) c.cut-has_changed-in-Greater.ensures.rows
    ∙ sym (ap (without R key c.args.key.now) is ∙ without_right R key g.met.T.Key.Ord.total c.args.key.now (tree_rows here.left) here.row (tree_rows here.right) rising order)
