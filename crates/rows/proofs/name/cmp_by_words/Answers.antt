use Rattle.std.proofs.Common.{◌≡◌, ◌<◌, ◌*◌, ◌+◌, ℕ, get_or, sym, ◌∙◌, arith, rules}
use Rattle.rows.proofs.NameWords.{by_word, decided, undecided}
use Rattle.rows.proofs.name.cmp_by_words.Goals as goal

pub returns-then-word-other : goal.returns-then-word-other
returns-then-word-other c =
    let xs = c.args.left.now in
    let ys = c.args.right.now in
    let left : (k : ℕ) → get_or xs k 0 < 256 = search rules in
    let right : (k : ℕ) → get_or ys k 0 < 256 = search rules in
    let cut = by_word (8 * c.loop-k.k) _ c.first_word-word.result c.first_word-other.result xs ys (omega arith) (omega arith) (omega arith) left right c.first_word-word.ensures c.first_word-other.ensures in
    c.cmp.ensures ∙ sym (c.loop-k.invariant ∙ cut ∙ decided _ _ _ c.if-word-other.true)

pub loop-k-preserved : goal.loop-k-preserved
loop-k-preserved c =
    let xs = c.args.left.now in
    let ys = c.args.right.now in
    let left : (k : ℕ) → get_or xs k 0 < 256 = search rules in
    let right : (k : ℕ) → get_or ys k 0 < 256 = search rules in
    let cut = by_word (8 * c.loop-k.k) _ c.first_word-word.result c.first_word-other.result xs ys (omega arith) (omega arith) (omega arith) left right c.first_word-word.ensures c.first_word-other.ensures in
    let next : 8 * c.loop-k.k + 8 ≡ 8 * (c.loop-k.k + 1) = omega arith in
    rw (← next) (c.loop-k.invariant ∙ cut ∙ undecided _ _ _ c.if-word-other.false)
