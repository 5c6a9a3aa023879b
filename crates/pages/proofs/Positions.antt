-- What a binary search over rising keys finds is the place of a put.
use Rattle.std.proofs.Common.{◌≡◌, ℕ, zero, suc, ◌<◌, ◌≤◌, cond, T, List, [], ◌∷◌, length, get_or, set, Some, None, refl, sym, ap, subst, ◌∙◌, arith, Result, Ok, Err, inl, inr}
use Rattle.std.proofs.lemmas.Bool.{cases_lt}
use Rattle.std.specs.Prelude.{insert}
use Rattle.std.specs.List.Sorted.{IsBinarySearchResult, IsSearchInRange, IsNonDecreasingBy}
use Rattle.std.specs.declared.cmp.Ordering.{Ordering}
use Rattle.std.specs.declared.cmp.Ordering.TheVariants.{Less, Equal, Greater}
use Rattle.std.specs.Ordering.{is_eq, ordering_reverse, ordering_index}
use Rattle.std.specs.Cmp.{IsTotalOrder}
use Rattle.pages.specs.Rows.{by_order, is_below, is_rising, row_of, put}
use Rattle.pages.specs.Positions.{PositionOf}
use Rattle.pages.specs.Inner.Parts.{FirstsSplit}
use Rattle.pages.proofs.RowLaws.{first, second, less, none_below, below_less}

module _ {K X : Type 0} (R : K → K → Ordering) (key : X → K) (o : IsTotalOrder R) where
  pub turned : (a b : K) (r : Ordering) → R a b ≡ r → R b a ≡ ordering_reverse r
  turned a b r e = o.antisymm b a ∙ ap ordering_reverse e

  pub below_at : (k : K) (ys : List X) (i : ℕ) (d : X) → T (is_below R key k ys) → i < length ys → R k (key (get_or ys i d)) ≡ Less
  below_at k [] i d h lt = absurd (omega arith)
  below_at k (y ∷ ys) zero d h lt = less _ (first _ _ h)
  below_at k (y ∷ ys) (suc i) d h lt = below_at k ys i d (second _ _ h) (omega arith)

  pub rising_at : (ys : List X) (i j : ℕ) (d : X) → T (is_rising R key ys) → i < j → j < length ys → R (key (get_or ys i d)) (key (get_or ys j d)) ≡ Less
  rising_at [] i j d h lt le = absurd (omega arith)
  rising_at (y ∷ ys) i zero d h lt le = absurd (omega arith)
  rising_at (y ∷ ys) zero (suc j) d h lt le = below_at (key y) ys j d (first _ _ h) (omega arith)
  rising_at (y ∷ ys) (suc i) (suc j) d h lt le = rising_at ys i j d (second _ _ h) (omega arith) (omega arith)

  index_grows : (a b k : K) → R a b ≡ Less → (r s : Ordering) → R a k ≡ r → R b k ≡ s → ordering_index r ≤ ordering_index s
  index_grows a b k lt Less s p q = omega arith
  index_grows a b k lt Equal s p q =
      let up : R b k ≡ Greater = turned k b Less (sym (o.congr a k b p) ∙ lt) in
      let same : s ≡ Greater = sym q ∙ up in
      subst (λ z. 1 ≤ ordering_index z) (sym same) (omega arith)
  index_grows a b k lt Greater s p q =
      let up : R b k ≡ Greater = turned k b Less (o.trans k a b (turned a k Greater p) lt) in
      let same : s ≡ Greater = sym q ∙ up in
      subst (λ z. 2 ≤ ordering_index z) (sym same) (omega arith)

  pub answers_rise : (k : K) (ys : List X) → T (is_rising R key ys) → IsNonDecreasingBy (λ y. ordering_index (R (key y) k)) ys
  answers_rise k ys h i j d le lt =
      elim (cases_lt i j) [
        | inl below ↦ index_grows _ _ k (rising_at ys i j d h below lt) _ _ refl refl
        | inr ge ↦
            let e : i ≡ j = omega arith in
            subst (λ (n : ℕ). ordering_index (R (key (get_or ys i d)) k) ≤ ordering_index (R (key (get_or ys n d)) k)) e (omega arith)
      ]

  found_row : (k : K) (ys : List X) (at : ℕ) (d : X) → T (is_rising R key ys) → at < length ys → R (key (get_or ys at d)) k ≡ Equal → row_of R key k ys ≡ Some (get_or ys at d)
  found_row k [] at d h lt e = absurd (omega arith)
  found_row k (y ∷ ys) zero d h lt e = ap (λ r. cond (is_eq r) (Some y) (row_of R key k ys)) (turned (key y) k Equal e)
  found_row k (y ∷ ys) (suc at) d h lt e =
      let up : R k (key y) ≡ Greater = sym (o.congr (key (get_or ys at d)) k (key y) e) ∙ turned (key y) (key (get_or ys at d)) Less (below_at (key y) ys at d (first _ _ h) (omega arith)) in
      ap (λ r. cond (is_eq r) (Some y) (row_of R key k ys)) up ∙ found_row k ys at d (second _ _ h) (omega arith) e

  found_put : (x : X) (ys : List X) (at : ℕ) (d : X) → T (is_rising R key ys) → at < length ys → R (key (get_or ys at d)) (key x) ≡ Equal → put R key x ys ≡ set ys at x
  found_put x [] at d h lt e = absurd (omega arith)
  found_put x (y ∷ ys) zero d h lt e = ap (λ r. by_order r (x ∷ y ∷ ys) (x ∷ ys) (y ∷ put R key x ys)) (turned (key y) (key x) Equal e)
  found_put x (y ∷ ys) (suc at) d h lt e =
      let up : R (key x) (key y) ≡ Greater = sym (o.congr (key (get_or ys at d)) (key x) (key y) e) ∙ turned (key y) (key (get_or ys at d)) Less (below_at (key y) ys at d (first _ _ h) (omega arith)) in
      ap (λ r. by_order r (x ∷ y ∷ ys) (x ∷ ys) (y ∷ put R key x ys)) up ∙ ap (λ zs. y ∷ zs) (found_put x ys at d (second _ _ h) (omega arith) e)

  abbrev Splits : K → List X → ℕ → Type 0
  Splits k ys at = ((i : ℕ) (d : X) → i < at → R (key (get_or ys i d)) k ≡ Less) × ((i : ℕ) (d : X) → at ≤ i → i < length ys → R (key (get_or ys i d)) k ≡ Greater)

  rest_splits : (k : K) (y : X) (ys : List X) (at : ℕ) → Splits k (y ∷ ys) (suc at) → Splits k ys at
  rest_splits k y ys at s = (λ i d lt. s.0 (suc i) d (omega arith), λ i d le lt. s.1 (suc i) d (omega arith) (omega arith))

  missing_row : (k : K) (ys : List X) (at : ℕ) → T (is_rising R key ys) → at ≤ length ys → Splits k ys at → row_of R key k ys ≡ None
  missing_row k [] at h le s = refl
  missing_row k (y ∷ ys) zero h le s =
      let up : R k (key y) ≡ Less = turned (key y) k Greater (s.1 0 y (omega arith) (omega arith)) in
      ap (λ r. cond (is_eq r) (Some y) (row_of R key k ys)) up ∙ none_below R key o k ys (below_less R key o k (key y) ys up (first _ _ h))
  missing_row k (y ∷ ys) (suc at) h le s =
      ap (λ r. cond (is_eq r) (Some y) (row_of R key k ys)) (turned (key y) k Less (s.0 0 y (omega arith)))
      ∙ missing_row k ys at (second _ _ h) (omega arith) (rest_splits k y ys at s)

  missing_put : (x : X) (ys : List X) (at : ℕ) → T (is_rising R key ys) → at ≤ length ys → Splits (key x) ys at → put R key x ys ≡ insert ys at x
  missing_put x [] zero h le s = refl
  missing_put x [] (suc at) h le s = absurd (omega arith)
  missing_put x (y ∷ ys) zero h le s = ap (λ r. by_order r (x ∷ y ∷ ys) (x ∷ ys) (y ∷ put R key x ys)) (turned (key y) (key x) Greater (s.1 0 y (omega arith) (omega arith)))
  missing_put x (y ∷ ys) (suc at) h le s =
      ap (λ r. by_order r (x ∷ y ∷ ys) (x ∷ ys) (y ∷ put R key x ys)) (turned (key y) (key x) Less (s.0 0 y (omega arith)))
      ∙ ap (λ zs. y ∷ zs) (missing_put x ys at (second _ _ h) (omega arith) (rest_splits (key x) y ys at s))

  pub firsts_found : (k : K) (ys : List X) (r : Result ℕ ℕ) → T (is_rising R key ys) → IsSearchInRange r (length ys) → IsBinarySearchResult (λ y. R (key y) k) ys r → FirstsSplit R key k ys r
  firsts_found k ys (Ok at) h lt s = (lt, s)
  firsts_found k ys (Err at) h le s =
      let p = s (answers_rise k ys h) in
      (le, λ i d lt. p.0 i d (omega arith) lt, λ i d le lt. p.1 i d le lt)

  pub position_found : (k : K) (ys : List X) (r : Result ℕ ℕ) → T (is_rising R key ys) → IsSearchInRange r (length ys) → IsBinarySearchResult (λ y. R (key y) k) ys r → PositionOf R key k ys r
  position_found k ys (Ok at) h lt s = (
    lt,
    λ d. found_row k ys at d h lt (s d),
    λ x e. found_put x ys at x h lt (ap (λ q. R (key (get_or ys at x)) q) e ∙ s x),
  )
  position_found k ys (Err at) h le s =
      let p = s (answers_rise k ys h) in
      let splits : Splits k ys at = (λ i d lt. p.0 i d (omega arith) lt, λ i d le lt. p.1 i d le lt) in
      (le, missing_row k ys at h le splits, λ x e. missing_put x ys at h le (subst (λ q. Splits q ys at) (sym e) splits))
