use Rattle.std.proofs.Common.{◌≡◌, ◌*◌, drop}
use Rattle.std.specs.Cmp.Lexicographic.{slice_cmp}
use Rattle.std.specs.Ordering.{nat_cmp}
use Rattle.rows.proofs.name.cmp_by_words.Given as goal

abbrev pub invariant-loop-k : goal.invariant-loop-k
invariant-loop-k l = slice_cmp nat_cmp l.left l.right ≡ slice_cmp nat_cmp (drop (8 * l.k) l.left) (drop (8 * l.k) l.right)
