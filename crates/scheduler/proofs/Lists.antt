-- Lists, as loops make them.
use Rattle.std.proofs.Common.{◌≡◌, ℕ, zero, suc, ◌+◌, ◌<◌, ◌≤◌, List, [], ◌∷◌, ◌++◌, length, get_or, set, map, take, drop, refl, ap, ◌∙◌, arith}

module _ {A : Type 0} where
  -- the item at a place becomes what `f` makes of it, as those before it did
  pub mapped_more : (f : A → A) (xs : List A) (i : ℕ) (y d : A) → i < length xs → y ≡ f (get_or xs i d) →
      take (i + 1) (set xs i y) ++ map f (drop (i + 1) (set xs i y)) ≡ take i xs ++ map f (drop i xs)
  mapped_more f [] i y d lt e = absurd (omega (arith, lt))
  mapped_more f (x ∷ xs) zero y d lt e = ap (λ z. z ∷ map f xs) e
  mapped_more f (x ∷ xs) (suc i) y d lt e =
      let next : suc i + 1 ≡ suc (i + 1) = omega arith in
      ap (λ n. take n (x ∷ set xs i y) ++ map f (drop n (x ∷ set xs i y))) next
      ∙ ap (λ zs. x ∷ zs) (mapped_more f xs i y d (omega (arith, lt)) e)

  pub mapped_all : (f : A → A) (xs ys : List A) (i : ℕ) → length xs ≤ i → take i xs ++ map f (drop i xs) ≡ ys → xs ≡ ys
  mapped_all f [] ys zero le e = e
  mapped_all f [] ys (suc i) le e = e
  mapped_all f (x ∷ xs) ys zero le e = absurd (omega (arith, le))
  mapped_all f (x ∷ xs) ys (suc i) le e = ap (λ zs. x ∷ zs) (mapped_all f xs (take i xs ++ map f (drop i xs)) i (omega (arith, le)) refl) ∙ e
