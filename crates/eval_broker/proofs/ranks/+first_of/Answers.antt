use Rattle.std.proofs.Common.{◌≡◌, ◌++◌, ◌∷◌, true, false, cond, Some, None, suc, T, sym, ap, subst, ◌∙◌, arith, rules}
use Rattle.std.specs.Prelude.{bytes_eq, max, option_map}
use Rattle.rows.specs.Keys.{name_cmp}
use Rattle.rows.specs.Rising.{is_rising}
use Rattle.fsm_tables.specs.Rows.{row_of}
use Rattle.fsm_tables.proofs.RowLaws.{second}
use Rattle.eval_broker.specs.Inner.Trees.{tree_rows, levels}
use Rattle.eval_broker.specs.Inner.Lists.{rank_cmp, rank_job}
use Rattle.eval_broker.proofs.Splits.{rising_front, rising_back}
use Rattle.eval_broker.proofs.FirstOfJob.{is_early, unmapped, job_left, job_right, job_here}
use Rattle.eval_broker.proofs.ranks.+first_of.Goals as goal

pub first_of-requires : goal.first_of-requires
first_of-requires t c =
    let here = c.in-Fork.branch.value in
    let high : levels c.args.ranks.now ≡ suc (max (levels here.left) (levels here.right)) = search rules in
    let low : levels c.deref-then-lt.result.now.right ≡ levels here.right = search rules in
    let is : tree_rows c.args.ranks.now ≡ tree_rows here.left ++ here.row ∷ tree_rows here.right = search rules in
    let same : tree_rows c.deref-then-lt.result.now.right ≡ tree_rows here.right = search rules in
    let rising = rising_back rank_cmp (λ p. p) (tree_rows here.left) (here.row ∷ tree_rows here.right) (subst (λ zs. T (is_rising rank_cmp (λ p. p) zs)) is c.requires) in
    (omega (arith, high, low), subst (λ zs. T (is_rising rank_cmp (λ p. p) zs)) (sym same) (second _ _ rising))

pub first_of-requires-in-Fork : goal.first_of-requires-in-Fork
first_of-requires-in-Fork t c =
    let here = c.in-Fork.branch.value in
    let high : levels c.args.ranks.now ≡ suc (max (levels here.left) (levels here.right)) = search rules in
    let low : levels c.deref-in-Fork.result.now.left ≡ levels here.left = search rules in
    let is : tree_rows c.args.ranks.now ≡ tree_rows here.left ++ here.row ∷ tree_rows here.right = search rules in
    let same : tree_rows c.deref-in-Fork.result.now.left ≡ tree_rows here.left = search rules in
    let rising = rising_front rank_cmp (λ p. p) (tree_rows here.left) (here.row ∷ tree_rows here.right) (subst (λ zs. T (is_rising rank_cmp (λ p. p) zs)) is c.requires) in
    (omega (arith, high, low), subst (λ zs. T (is_rising rank_cmp (λ p. p) zs)) (sym same) rising)

pub returns-then-lt : goal.returns-then-lt
returns-then-lt t c =
    let job = c.args.job.now in
    let here = c.in-Fork.branch.value in
    let is : tree_rows c.args.ranks.now ≡ tree_rows here.left ++ here.row ∷ tree_rows here.right = search rules in
    let same : tree_rows c.deref-then-lt.result.now.right ≡ tree_rows here.right = search rules in
    let rising = subst (λ zs. T (is_rising rank_cmp (λ p. p) zs)) is c.requires in
    let early : is_early job here.row ≡ true = search rules in
    c.first_of.ensures ∙ ap (row_of name_cmp rank_job job) same
    ∙ sym (ap (row_of name_cmp rank_job job) is ∙ job_right job (tree_rows here.left) here.row (tree_rows here.right) rising early)

pub returns-in-None : goal.returns-in-None
returns-in-None t c =
    let job = c.args.job.now in
    let here = c.in-Fork.branch.value in
    let is : tree_rows c.args.ranks.now ≡ tree_rows here.left ++ here.row ∷ tree_rows here.right = search rules in
    let same : tree_rows c.deref-in-Fork.result.now.left ≡ tree_rows here.left = search rules in
    let rising = subst (λ zs. T (is_rising rank_cmp (λ p. p) zs)) is c.requires in
    let late : is_early job here.row ≡ false = search rules in
    let none : row_of name_cmp rank_job job (tree_rows here.left) ≡ None =
    sym (ap (row_of name_cmp rank_job job) same) ∙ sym c.first_of-in-Fork.ensures ∙ ap (option_map (λ p. p.now)) c.in-None.is in
    c.of_job.ensures ∙ ap (λ (b : _). cond (bytes_eq b.row.job job) (Some b.row) None) c.deref-in-None.ensures
    ∙ sym (ap (row_of name_cmp rank_job job) is ∙ job_here job (tree_rows here.left) here.row (tree_rows here.right) rising late none)

pub returns-in_default : goal.returns-in_default
returns-in_default t c =
    let job = c.args.job.now in
    let here = c.in-Fork.branch.value in
    let is : tree_rows c.args.ranks.now ≡ tree_rows here.left ++ here.row ∷ tree_rows here.right = search rules in
    let same : tree_rows c.deref-in-Fork.result.now.left ≡ tree_rows here.left = search rules in
    let found = sym (ap (row_of name_cmp rank_job job) same) ∙ sym c.first_of-in-Fork.ensures in
    sym (ap (row_of name_cmp rank_job job) is
    ∙ job_left job (tree_rows here.left) (here.row ∷ tree_rows here.right) (option_map (λ p. p.now) c.first_of-in-Fork.result) found (λ e. c.in_default.not-None (unmapped (λ p. p.now) c.first_of-in-Fork.result e)))
