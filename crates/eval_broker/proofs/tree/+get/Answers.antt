use Rattle.std.proofs.Common.{◌≡◌, suc, ◌++◌, ◌∷◌, arith, T, sym, ap, subst, ◌∙◌, rules}
use Rattle.std.specs.Prelude.{max}
use Rattle.std.specs.declared.cmp.Ordering.TheVariants.{Less, Equal, Greater}
use Rattle.rows.specs.Rising.{is_rising}
use Rattle.fsm_tables.specs.Rows.{row_of}
use Rattle.fsm_tables.proofs.RowLaws.{second}
use Rattle.eval_broker.specs.Inner.Trees.{tree_rows, levels}
use Rattle.eval_broker.proofs.Splits.{rising_front, rising_back, row_of_left, row_of_middle, row_of_right}
use Rattle.eval_broker.proofs.tree.+get.Goals as goal

pub get-requires : goal.get-requires
get-requires g t c κs within =
    let R = g.T.Key.Ord.cmp in
    let key = g.T.Row.key_of in
    let here = c.deref-in-Less.result.now in
    let high : levels c.args.tree.now ≡ suc (max (levels here.left) (levels here.right)) = search rules in
    let is : tree_rows c.args.tree.now ≡ tree_rows here.left ++ here.row ∷ tree_rows here.right = search rules in
    let rising = subst (λ zs. T (is_rising R key zs)) is c.requires in
    (omega (arith, high), (within.0, (within.1, rising_front R key (tree_rows here.left) (here.row ∷ tree_rows here.right) rising)))

pub get-requires-in-Greater : goal.get-requires-in-Greater
get-requires-in-Greater g t c κs within =
    let R = g.T.Key.Ord.cmp in
    let key = g.T.Row.key_of in
    let here = c.deref-in-Greater.result.now in
    let high : levels c.args.tree.now ≡ suc (max (levels here.left) (levels here.right)) = search rules in
    let is : tree_rows c.args.tree.now ≡ tree_rows here.left ++ here.row ∷ tree_rows here.right = search rules in
    let rising = rising_back R key (tree_rows here.left) (here.row ∷ tree_rows here.right) (subst (λ zs. T (is_rising R key zs)) is c.requires) in
    (omega (arith, high), (within.0, (within.1, second _ _ rising)))

pub returns-in-Less : goal.returns-in-Less
returns-in-Less g t c =
    let R = g.T.Key.Ord.cmp in
    let key = g.T.Row.key_of in
    let here = c.deref-in-Less.result.now in
    let is : tree_rows c.args.tree.now ≡ tree_rows here.left ++ here.row ∷ tree_rows here.right = search rules in
    let rising = subst (λ zs. T (is_rising R key zs)) is c.requires in
    let order : R c.args.key.now (key here.row) ≡ Less = search rules in
    c.get.ensures ∙ sym (ap (row_of R key c.args.key.now) is ∙ row_of_left R key g.met.T.Key.Ord.total c.args.key.now (tree_rows here.left) here.row (tree_rows here.right) rising order)

pub returns-in-Equal : goal.returns-in-Equal
returns-in-Equal g t c =
    let R = g.T.Key.Ord.cmp in
    let key = g.T.Row.key_of in
    let here = c.deref-in-Equal.result.now in
    let is : tree_rows c.args.tree.now ≡ tree_rows here.left ++ here.row ∷ tree_rows here.right = search rules in
    let rising = subst (λ zs. T (is_rising R key zs)) is c.requires in
    let order : R c.args.key.now (key here.row) ≡ Equal = search rules in
    sym (ap (row_of R key c.args.key.now) is ∙ row_of_middle R key g.met.T.Key.Ord.total c.args.key.now (tree_rows here.left) here.row (tree_rows here.right) rising order)

pub returns-in-Greater : goal.returns-in-Greater
returns-in-Greater g t c =
    let R = g.T.Key.Ord.cmp in
    let key = g.T.Row.key_of in
    let here = c.deref-in-Greater.result.now in
    let is : tree_rows c.args.tree.now ≡ tree_rows here.left ++ here.row ∷ tree_rows here.right = search rules in
    let rising = subst (λ zs. T (is_rising R key zs)) is c.requires in
    let order : R c.args.key.now (key here.row) ≡ Greater = search rules in
    c.get-in-Greater.ensures ∙ sym (ap (row_of R key c.args.key.now) is ∙ row_of_right R key g.met.T.Key.Ord.total c.args.key.now (tree_rows here.left) here.row (tree_rows here.right) rising order)
