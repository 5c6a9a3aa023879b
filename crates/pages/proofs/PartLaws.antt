-- A put into the right part is a put into the whole, and keeps the parts.
use Rattle.std.proofs.Common.{◌≡◌, ℕ, zero, suc, ◌<◌, not, cond, T, List, [], ◌∷◌, ◌++◌, length, get_or, set, Some, refl, sym, ap, subst, ◌∙◌, arith, append-nil}
use Rattle.std.specs.declared.cmp.Ordering.{Ordering}
use Rattle.std.specs.declared.cmp.Ordering.TheVariants.{Less, Equal, Greater}
use Rattle.std.specs.Ordering.{is_lt, is_eq, ordering_reverse}
use Rattle.std.specs.Cmp.{IsTotalOrder}
use Rattle.pages.specs.Rows.{by_order, is_below, is_rising, row_of, put}
use Rattle.pages.specs.Inner.Parts.{rows_of, are_below, are_from, are_before, AreApart, Leads}
use Rattle.pages.proofs.RowLaws.{both, first, second, less, none_below}

module _ {K X : Type 0} (R : K → K → Ordering) (key : X → K) (o : IsTotalOrder R) where
  pub turned : (a b : K) (r : Ordering) → R a b ≡ r → R b a ≡ ordering_reverse r
  turned a b r e = o.antisymm b a ∙ ap ordering_reverse e

  -- j < k and not m < k: j < m
  pub lt_le : (j k m : K) → R j k ≡ Less → T (not (is_lt (R m k))) → R j m ≡ Less
  lt_le j k m p h = elim (R m k) as (λ r. R m k ≡ r → T (not (is_lt r)) → R j m ≡ Less) [
    | Less ↦ λ e q. absurd q
    | Equal ↦ λ e q. turned m j Greater (o.congr m k j e ∙ turned j k Less p)
    | Greater ↦ λ e q. o.trans j k m p (turned m k Greater e)
  ] refl h

  -- j < k and not m < k where m is the key asked: not m < j
  pub not_lt_less : (m k j : K) → T (not (is_lt (R m k))) → R j k ≡ Less → T (not (is_lt (R m j)))
  not_lt_less m k j h p = subst (λ r. T (not (is_lt r))) (sym (turned j m Less (lt_le j k m p h))) tt

  pub not_less : (a b : K) → R a b ≡ Less → T (not (is_lt (R b a)))
  not_less a b p = subst (λ r. T (not (is_lt r))) (sym (turned a b Less p)) tt

  -- not m < k, and not k < j: not m < j
  pub not_lt_trans : (m k j : K) → T (not (is_lt (R m k))) → T (not (is_lt (R k j))) → T (not (is_lt (R m j)))
  not_lt_trans m k j h g = elim (R m j) as (λ r. R m j ≡ r → T (not (is_lt r))) [
    | Less ↦ λ e. absurd (subst (λ r. T (not (is_lt r))) (lt_le m j k e g) h)
    | Equal ↦ λ e. tt
    | Greater ↦ λ e. tt
  ] refl

  pub below_from : (k j : K) (ys : List X) → R k j ≡ Less → T (are_from R key j ys) → T (is_below R key k ys)
  below_from k j [] p h = tt
  below_from k j (y ∷ ys) p h = both _ _ (subst (λ r. T (is_lt r)) (sym (lt_le k j (key y) p (first _ _ h))) tt) (below_from k j ys p (second _ _ h))

  pub below_up : (j k : K) (ys : List X) → T (are_below R key j ys) → T (not (is_lt (R k j))) → T (are_below R key k ys)
  below_up j k [] h g = tt
  below_up j k (y ∷ ys) h g = both _ _ (subst (λ r. T (is_lt r)) (sym (lt_le (key y) j k (less _ (first _ _ h)) g)) tt) (below_up j k ys (second _ _ h) g)

  pub from_down : (j k : K) (ys : List X) → T (are_from R key j ys) → T (not (is_lt (R j k))) → T (are_from R key k ys)
  from_down j k [] h g = tt
  from_down j k (y ∷ ys) h g = both _ _ (not_lt_trans (key y) j k (first _ _ h) g) (from_down j k ys (second _ _ h) g)

  pub from_put : (k : K) (x : X) (ys : List X) → T (are_from R key k ys) → T (not (is_lt (R (key x) k))) → T (are_from R key k (put R key x ys))
  from_put k x [] h g = both _ _ g tt
  from_put k x (y ∷ ys) h g = elim (R (key x) (key y)) as (λ r. T (are_from R key k (by_order r (x ∷ y ∷ ys) (x ∷ ys) (y ∷ put R key x ys)))) [
    | Less ↦ both _ _ g h
    | Equal ↦ both _ _ g (second _ _ h)
    | Greater ↦ both _ _ (first _ _ h) (from_put k x ys (second _ _ h) g)
  ]

  pub below_put : (k : K) (x : X) (ys : List X) → T (are_below R key k ys) → T (is_lt (R (key x) k)) → T (are_below R key k (put R key x ys))
  below_put k x [] h g = both _ _ g tt
  below_put k x (y ∷ ys) h g = elim (R (key x) (key y)) as (λ r. T (are_below R key k (by_order r (x ∷ y ∷ ys) (x ∷ ys) (y ∷ put R key x ys)))) [
    | Less ↦ both _ _ g h
    | Equal ↦ both _ _ g (second _ _ h)
    | Greater ↦ both _ _ (first _ _ h) (below_put k x ys (second _ _ h) g)
  ]

  pub from_append : (k : K) (xs ys : List X) → T (are_from R key k xs) → T (are_from R key k ys) → T (are_from R key k (xs ++ ys))
  from_append k [] ys h g = g
  from_append k (x ∷ xs) ys h g = both _ _ (first _ _ h) (from_append k xs ys (second _ _ h) g)

  pub from_front : (k : K) (xs ys : List X) → T (are_from R key k (xs ++ ys)) → T (are_from R key k xs)
  from_front k [] ys h = tt
  from_front k (x ∷ xs) ys h = both _ _ (first _ _ h) (from_front k xs ys (second _ _ h))

  pub from_back : (k : K) (xs ys : List X) → T (are_from R key k (xs ++ ys)) → T (are_from R key k ys)
  from_back k [] ys h = h
  from_back k (x ∷ xs) ys h = from_back k xs ys (second _ _ h)

  pub below_front : (k : K) (xs ys : List X) → T (are_below R key k (xs ++ ys)) → T (are_below R key k xs)
  below_front k [] ys h = tt
  below_front k (x ∷ xs) ys h = both _ _ (first _ _ h) (below_front k xs ys (second _ _ h))

  pub below_back : (k : K) (xs ys : List X) → T (are_below R key k (xs ++ ys)) → T (are_below R key k ys)
  below_back k [] ys h = h
  below_back k (x ∷ xs) ys h = below_back k xs ys (second _ _ h)

  pub rising_front : (xs ys : List X) → T (is_rising R key (xs ++ ys)) → T (is_rising R key xs)
  rising_front [] ys h = tt
  rising_front (x ∷ xs) ys h = both _ _ (is_below_front (key x) xs ys (first _ _ h)) (rising_front xs ys (second _ _ h))
    where
      is_below_front : (k : K) (xs ys : List X) → T (is_below R key k (xs ++ ys)) → T (is_below R key k xs)
      is_below_front k [] ys h = tt
      is_below_front k (x ∷ xs) ys h = both _ _ (first _ _ h) (is_below_front k xs ys (second _ _ h))

  pub rising_back : (xs ys : List X) → T (is_rising R key (xs ++ ys)) → T (is_rising R key ys)
  rising_back [] ys h = h
  rising_back (x ∷ xs) ys h = rising_back xs ys (second _ _ h)

  -- no row of a rising list is below its first one
  pub above_head : (k : K) (ys : List X) → T (is_below R key k ys) → T (are_from R key k ys)
  above_head k [] h = tt
  above_head k (y ∷ ys) h = both _ _ (not_less k (key y) (less _ (first _ _ h))) (above_head k ys (second _ _ h))

  pub not_below_itself : (k : K) → T (not (is_lt (R k k)))
  not_below_itself k = elim (R k k) as (λ r. R k k ≡ r → T (not (is_lt r))) [
    | Less ↦ λ e. absurd (subst (λ r. T (not (is_lt r))) e (not_less k k e))
    | Equal ↦ λ e. tt
    | Greater ↦ λ e. tt
  ] refl

  pub from_head : (y : X) (ys : List X) → T (is_rising R key (y ∷ ys)) → T (are_from R key (key y) (y ∷ ys))
  from_head y ys h = both _ _ (not_below_itself (key y)) (above_head (key y) ys (first _ _ h))

  -- rows in front of a row of a rising list are below it
  pub front_below : (xs : List X) (y : X) (ys : List X) → T (is_rising R key (xs ++ y ∷ ys)) → T (are_below R key (key y) xs)
  front_below [] y ys h = tt
  front_below (x ∷ xs) y ys h = both _ _ (at_end (key x) xs y ys (first _ _ h)) (front_below xs y ys (second _ _ h))
    where
      at_end : (k : K) (xs : List X) (y : X) (ys : List X) → T (is_below R key k (xs ++ y ∷ ys)) → T (is_lt (R k (key y)))
      at_end k [] y ys h = first _ _ h
      at_end k (x ∷ xs) y ys h = at_end k xs y ys (second _ _ h)

  -- the parts after x's
  pub put_before : (x : X) (page others : List X) → T (is_below R key (key x) others) → put R key x (page ++ others) ≡ put R key x page ++ others
  put_before x [] [] h = refl
  put_before x [] (y ∷ ys) h = ap (λ r. by_order r (x ∷ y ∷ ys) (x ∷ ys) (y ∷ put R key x ys)) (less _ (first _ _ h))
  put_before x (y ∷ ys) others h =
      elim (R (key x) (key y)) as (λ r. by_order r (x ∷ y ∷ (ys ++ others)) (x ∷ (ys ++ others)) (y ∷ put R key x (ys ++ others)) ≡ by_order r (x ∷ y ∷ ys) (x ∷ ys) (y ∷ put R key x ys) ++ others) [
        | Less ↦ refl
        | Equal ↦ refl
        | Greater ↦ ap (λ zs. y ∷ zs) (put_before x ys others h)
      ]

  -- the parts before x's
  pub put_after : (x : X) (others page : List X) → T (are_below R key (key x) others) → put R key x (others ++ page) ≡ others ++ put R key x page
  put_after x [] page h = refl
  put_after x (y ∷ ys) page h =
      ap (λ r. by_order r (x ∷ y ∷ (ys ++ page)) (x ∷ (ys ++ page)) (y ∷ put R key x (ys ++ page))) (turned (key y) (key x) Less (less _ (first _ _ h)))
      ∙ ap (λ zs. y ∷ zs) (put_after x ys page (second _ _ h))

  -- a row whose key is above all goes to the end
  pub put_last : (x : X) (front behind : List X) → T (is_rising R key (front ++ x ∷ behind)) → put R key x front ≡ front ++ x ∷ []
  put_last x front behind h = ap (put R key x) (sym (append-nil front)) ∙ put_after x front [] (front_below front x behind h)

  pub found_before : (k : K) (page others : List X) → T (is_below R key k others) → row_of R key k (page ++ others) ≡ row_of R key k page
  found_before k [] others h = none_below R key o k others h
  found_before k (y ∷ ys) others h = ap (cond (is_eq (R k (key y))) (Some y)) (found_before k ys others h)

  pub found_after : (k : K) (others page : List X) → T (are_below R key k others) → row_of R key k (others ++ page) ≡ row_of R key k page
  found_after k [] page h = refl
  found_after k (y ∷ ys) page h = ap (λ r. cond (is_eq r) (Some y) (row_of R key k (ys ++ page))) (turned (key y) k Less (less _ (first _ _ h))) ∙ found_after k ys page (second _ _ h)

  module _ {S : Type 0} (start : S → K) (rows : S → List X) where
    -- the parts behind one are above the key that it leads
    pub rest_below : (k : K) (s : S) (ss : List S) → Leads R key start rows k (s ∷ ss) 0 → AreApart R key start rows (s ∷ ss) → T (is_below R key k (rows_of rows ss))
    rest_below k s [] l h = tt
    rest_below k s (t ∷ ts) l h = below_from k (start t) (rows_of rows (t ∷ ts)) (l.1 1 t (omega arith) (omega arith)) h.2.0

    pub at_before : (ys : List X) (ss : List S) (at : ℕ) (d : S) → at < length ss → T (are_before R key start rows ys ss) → T (are_below R key (start (get_or ss at d)) ys)
    at_before ys [] at d lt h = absurd (omega arith)
    at_before ys (s ∷ ss) zero d lt h = first _ _ h
    at_before ys (s ∷ ss) (suc at) d lt h = at_before ys ss at d (omega arith) (second _ _ h)

    pub next_leads : (k : K) (s : S) (ss : List S) (at : ℕ) → Leads R key start rows k (s ∷ ss) (suc at) → Leads R key start rows k ss at
    next_leads k s ss at l = (omega (arith, l.0), λ i d lt le. l.1 (suc i) d (omega arith) (omega arith), λ lt d. l.2 (omega arith) d)

    -- the rows in front of the part that leads a key are below it
    pub front_is_below : (k : K) (s : S) (ss : List S) (at : ℕ) → Leads R key start rows k (s ∷ ss) (suc at) → AreApart R key start rows (s ∷ ss) → T (are_below R key k (rows s))
    front_is_below k s ss at l h = below_up (start (get_or ss at s)) k (rows s) (at_before (rows s) ss at s (omega (arith, l.0)) h.1) (l.2 (omega arith) s)

    pub row_of-parts : (k : K) (ss : List S) (at : ℕ) (d : S) → Leads R key start rows k ss at → AreApart R key start rows ss → row_of R key k (rows_of rows ss) ≡ row_of R key k (rows (get_or ss at d))
    row_of-parts k [] at d l h = absurd (omega (arith, l.0))
    row_of-parts k (s ∷ ss) zero d l h = found_before k (rows s) (rows_of rows ss) (rest_below k s ss l h)
    row_of-parts k (s ∷ ss) (suc at) d l h = found_after k (rows s) (rows_of rows ss) (front_is_below k s ss at l h) ∙ row_of-parts k ss at d (next_leads k s ss at l) h.2

    pub put-parts : (x : X) (ss : List S) (at : ℕ) (d new : S) → Leads R key start rows (key x) ss at → AreApart R key start rows ss → rows new ≡ put R key x (rows (get_or ss at d)) → rows_of rows (set ss at new) ≡ put R key x (rows_of rows ss)
    put-parts x [] at d new l h e = absurd (omega (arith, l.0))
    put-parts x (s ∷ ss) zero d new l h e = ap (λ ys. ys ++ rows_of rows ss) e ∙ sym (put_before x (rows s) (rows_of rows ss) (rest_below (key x) s ss l h))
    put-parts x (s ∷ ss) (suc at) d new l h e = ap (λ ys. rows s ++ ys) (put-parts x ss at d new (next_leads (key x) s ss at l) h.2 e) ∙ sym (put_after x (rows s) (rows_of rows ss) (front_is_below (key x) s ss at l h))
