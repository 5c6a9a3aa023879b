-- The least, the median and the greatest of numbers, by their order.
use Rattle.std.proofs.Common.{◌≡◌, ℕ, List, [], ◌∷◌, Option, Some, None, MatchOption, arith, length, refl}
use Rattle.std.specs.List.Sorted.{IsPermutation}
use Rattle.std.proofs.lemmas.List.Sorted.{IsPermutation-trans, length_permutation}
use Rattle.sim_sweep.specs.declared.spread.Spread.{Spread}
use Rattle.sim_sweep.specs.Summaries.{IsSpread}

no_length : (xs : List ℕ) → length xs ≡ 0 → xs ≡ []
no_length [] e = refl
no_length (x ∷ xs) e = absurd (omega arith)

-- what is said of the same numbers in their order
pub spread_of_sorted : (numbers sorted : List ℕ) (spread : Option Spread) → IsPermutation numbers sorted
    → MatchOption spread (sorted ≡ []) (IsSpread sorted)
    → MatchOption spread (numbers ≡ []) (IsSpread numbers)
spread_of_sorted numbers sorted None same none =
    let e = length_permutation numbers sorted same in
    let n : length sorted ≡ 0 = rw none refl in
    no_length numbers (omega arith)
spread_of_sorted numbers sorted (Some spread) same is = record {
  sorted = is.sorted;
  same = IsPermutation-trans numbers sorted is.sorted same is.same;
  rising = is.rising;
  least = is.least;
  median = is.median;
  greatest = is.greatest;
}
