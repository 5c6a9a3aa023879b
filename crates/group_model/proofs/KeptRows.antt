-- What is made of the rows that pass a test, where one row is put among them.
use Rattle.std.proofs.Common.{◌≡◌, Bool, true, false, cond, not, T, List, [], ◌∷◌, map, filter, Some, refl, sym, ap, subst, ◌∙◌}
use Rattle.std.specs.declared.cmp.Ordering.{Ordering}
use Rattle.std.specs.declared.cmp.Ordering.TheVariants.{Less, Equal, Greater}
use Rattle.std.specs.List.{AllByRecursion}
use Rattle.std.specs.Ordering.{is_lt, is_eq, ordering_reverse}
use Rattle.std.specs.Cmp.{IsTotalOrder}
use Rattle.rows.specs.Rising.{is_below, is_rising}
use Rattle.fsm_tables.specs.Rows.{by_order, row_of, put}
use Rattle.fsm_tables.proofs.RowLaws.{both, first, second, less, below_less, below_tied}
use Rattle.fsm_tables.proofs.SetLaws.{found_first}
use Rattle.fsm_tables.specs.ReservedTables.{without}

module _ {K B : Type 0} (R : K → K → Ordering) (key : B → K) where
  -- a row below all others goes to the front, and none of them goes with its key
  pub put_front : (z : B) (zs : List B) → T (is_below R key (key z) zs) → put R key z zs ≡ z ∷ zs
  put_front z [] h = refl
  put_front z (y ∷ zs) h = ap (λ r. by_order r (z ∷ y ∷ zs) (z ∷ zs) (y ∷ put R key z zs)) (less _ (first _ _ h))

  without_below : (k : K) (zs : List B) → T (is_below R key k zs) → without R key k zs ≡ zs
  without_below k [] h = refl
  without_below k (y ∷ zs) h =
      ap (λ r. cond (not (is_eq r)) (y ∷ without R key k zs) (without R key k zs)) (less _ (first _ _ h)) ∙ ap (λ l. y ∷ l) (without_below k zs (second _ _ h))

  module _ (o : IsTotalOrder R) where
    skip_head : (y : B) (ys zs : List B) → T (is_below R key (key y) zs) → AllByRecursion (λ z. row_of R key (key z) ys ≡ Some z) zs → AllByRecursion (λ z. row_of R key (key z) (y ∷ ys) ≡ Some z) zs
    skip_head y ys [] h a = tt
    skip_head y ys (z ∷ zs) h a =
        (ap (λ r. cond (is_eq r) (Some y) (row_of R key (key z) ys)) (o.antisymm (key z) (key y) ∙ ap ordering_reverse (less _ (first _ _ h))) ∙ a.0, skip_head y ys zs (second _ _ h) a.1)

    -- each row of a rising list is found under its key
    pub all_found : (ys : List B) → T (is_rising R key ys) → AllByRecursion (λ y. row_of R key (key y) ys ≡ Some y) ys
    all_found [] h = tt
    all_found (y ∷ ys) h = (found_first R key o y ys, skip_head y ys ys (first _ _ h) (all_found ys (second _ _ h)))

module _ {K A B : Type 0} (R : K → K → Ordering) (ka : A → K) (kb : B → K) (make : A → B) (same : (x : A) → kb (make x) ≡ ka x) where
  below_back : (k : K) (xs : List A) → T (is_below R kb k (map make xs)) → T (is_below R ka k xs)
  below_back k [] h = tt
  below_back k (x ∷ xs) h = both _ _ (subst (λ q. T (is_lt (R k q))) (same x) (first _ _ h)) (below_back k xs (second _ _ h))

  -- what rises by what is made of it rises
  pub rising_back : (xs : List A) → T (is_rising R kb (map make xs)) → T (is_rising R ka xs)
  rising_back [] h = tt
  rising_back (x ∷ xs) h = both _ _ (below_back (ka x) xs (subst (λ q. T (is_below R kb q (map make xs))) (same x) (first _ _ h))) (rising_back xs (second _ _ h))

  module _ (keep : A → Bool) where
    pub below_kept : (k : K) (xs : List A) → T (is_below R ka k xs) → T (is_below R kb k (map make (filter keep xs)))
    below_kept k [] h = tt
    below_kept k (x ∷ xs) h = elim (keep x) as (λ b. T (is_below R kb k (map make (cond b (x ∷ filter keep xs) (filter keep xs))))) [
      | true ↦ both _ _ (subst (λ q. T (is_lt (R k q))) (sym (same x)) (first _ _ h)) (below_kept k xs (second _ _ h))
      | false ↦ below_kept k xs (second _ _ h)
    ]

    pub rising_kept : (xs : List A) → T (is_rising R ka xs) → T (is_rising R kb (map make (filter keep xs)))
    rising_kept [] h = tt
    rising_kept (x ∷ xs) h = elim (keep x) as (λ b. T (is_rising R kb (map make (cond b (x ∷ filter keep xs) (filter keep xs))))) [
      | true ↦ both _ _ (subst (λ q. T (is_below R kb q (map make (filter keep xs)))) (sym (same x)) (below_kept (ka x) xs (first _ _ h))) (rising_kept xs (second _ _ h))
      | false ↦ rising_kept xs (second _ _ h)
    ]

    -- what one row more makes of a list: it comes in at its place, or goes
    abbrev pub With : A → List B → List B
    With x zs = cond (keep x) (put R kb (make x) zs) (without R kb (ka x) zs)

    at_front : (x : A) (zs : List A) → T (is_below R ka (ka x) zs) → map make (filter keep (x ∷ zs)) ≡ With x (map make (filter keep zs))
    at_front x zs h =
        elim (keep x) as (λ b. map make (cond b (x ∷ filter keep zs) (filter keep zs)) ≡ cond b (put R kb (make x) (map make (filter keep zs))) (without R kb (ka x) (map make (filter keep zs)))) [
          | true ↦ sym (put_front R kb (make x) (map make (filter keep zs)) (subst (λ q. T (is_below R kb q (map make (filter keep zs)))) (sym (same x)) (below_kept (ka x) zs h)))
          | false ↦ sym (without_below R kb (ka x) (map make (filter keep zs)) (below_kept (ka x) zs h))
        ]

    keys : (x y : A) → R (kb (make x)) (kb (make y)) ≡ R (ka x) (ka y)
    keys x y = ap (λ q. R q (kb (make y))) (same x) ∙ ap (R (ka x)) (same y)

    -- in place of a row of its key, which is kept or not
    tied : (x y : A) (ys : List A) → R (ka x) (ka y) ≡ Equal → T (is_below R ka (ka x) ys) → (c : Bool) → map make (filter keep (x ∷ ys)) ≡ With x (map make (cond c (y ∷ filter keep ys) (filter keep ys)))
    tied x y ys p h false = at_front x ys h
    tied x y ys p h true =
        let zs = map make (filter keep ys) in
        elim (keep x) as (λ b. map make (cond b (x ∷ filter keep ys) (filter keep ys)) ≡ cond b (put R kb (make x) (make y ∷ map make (filter keep ys))) (without R kb (ka x) (make y ∷ map make (filter keep ys)))) [
          | true ↦ sym (ap (λ r. by_order r (make x ∷ make y ∷ zs) (make x ∷ zs) (make y ∷ put R kb (make x) zs)) (keys x y ∙ p))
          | false ↦ sym (ap (λ r. cond (not (is_eq r)) (make y ∷ without R kb (ka x) zs) (without R kb (ka x) zs)) (ap (R (ka x)) (same y) ∙ p) ∙ without_below R kb (ka x) zs (below_kept (ka x) ys h))
        ]

    -- past a row of a lower key, which is kept or not
    past : (x y : A) (ys more : List A) → R (ka x) (ka y) ≡ Greater → map make (filter keep more) ≡ With x (map make (filter keep ys)) → (c : Bool) →
        map make (cond c (y ∷ filter keep more) (filter keep more)) ≡ With x (map make (cond c (y ∷ filter keep ys) (filter keep ys)))
    past x y ys more p rest false = rest
    past x y ys more p rest true =
        let zs = map make (filter keep ys) in
        ap (λ l. make y ∷ l) rest
        ∙ elim (keep x) as (λ b. make y ∷ cond b (put R kb (make x) (map make (filter keep ys))) (without R kb (ka x) (map make (filter keep ys)))
        ≡ cond b (put R kb (make x) (make y ∷ map make (filter keep ys))) (without R kb (ka x) (make y ∷ map make (filter keep ys)))) [
          | true ↦ sym (ap (λ r. by_order r (make x ∷ make y ∷ zs) (make x ∷ zs) (make y ∷ put R kb (make x) zs)) (keys x y ∙ p))
          | false ↦ sym (ap (λ r. cond (not (is_eq r)) (make y ∷ without R kb (ka x) zs) (without R kb (ka x) zs)) (ap (R (ka x)) (same y) ∙ p))
        ]

    pub one_row : IsTotalOrder R → (x : A) (ys : List A) → T (is_rising R ka ys) → map make (filter keep (put R ka x ys)) ≡ With x (map make (filter keep ys))
    one_row o x [] h = at_front x [] tt
    one_row o x (y ∷ ys) h =
        elim (R (ka x) (ka y)) as (λ r. R (ka x) (ka y) ≡ r → map make (filter keep (by_order r (x ∷ y ∷ ys) (x ∷ ys) (y ∷ put R ka x ys))) ≡ With x (map make (filter keep (y ∷ ys)))) [
          | Less ↦ λ p. at_front x (y ∷ ys) (both _ _ (subst (λ r. T (is_lt r)) (sym p) tt) (below_less R ka o (ka x) (ka y) ys p (first _ _ h)))
          | Equal ↦ λ p. tied x y ys p (below_tied R ka o (ka x) (ka y) ys p (first _ _ h)) (keep y)
          | Greater ↦ λ p. past x y ys (put R ka x ys) p (one_row o x ys (second _ _ h)) (keep y)
        ] refl
