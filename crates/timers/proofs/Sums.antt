-- Sums, item by item.
use Rattle.std.proofs.Common.{◌≡◌, ℕ, ◌+◌, List, [], ◌∷◌, arith}
use Rattle.std.specs.Prelude.{sum}
use Rattle.std.specs.List.{fold}

fold_from : (a : ℕ) (xs : List ℕ) → fold ◌+◌ a xs ≡ a + fold ◌+◌ 0 xs
fold_from a [] = omega arith
fold_from a (x ∷ xs) =
    let here : fold ◌+◌ (a + x) xs ≡ (a + x) + fold ◌+◌ 0 xs = fold_from (a + x) xs in
    let there : fold ◌+◌ (0 + x) xs ≡ (0 + x) + fold ◌+◌ 0 xs = fold_from (0 + x) xs in
    omega (arith, here, there)

pub sum_cons : (x : ℕ) (xs : List ℕ) → sum (x ∷ xs) ≡ x + sum xs
sum_cons x xs =
    let there : fold ◌+◌ (0 + x) xs ≡ (0 + x) + fold ◌+◌ 0 xs = fold_from (0 + x) xs in
    omega (arith, there)
