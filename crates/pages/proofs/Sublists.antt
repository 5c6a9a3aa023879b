-- Some parts of a list of parts, and parts that are alike.
use Rattle.std.proofs.Common.{◌≡◌, ℕ, zero, suc, ◌+◌, ◌<◌, T, List, [], ◌∷◌, ◌++◌, length, get_or, set, take, drop, refl, sym, ap, subst, ◌∙◌, arith, append_assoc, add-one}
use Rattle.std.proofs.lemmas.List.{take-append-drop}
use Rattle.std.specs.declared.cmp.Ordering.{Ordering}
use Rattle.std.specs.Ordering.{is_lt}
use Rattle.std.specs.Cmp.{IsTotalOrder}
use Rattle.pages.specs.Rows.{is_below, is_rising}
use Rattle.pages.specs.Inner.Parts.{rows_of, are_below, are_from, are_before, AreApart, Parted, AreAlike}
use Rattle.pages.proofs.RowLaws.{both, first, second}
use Rattle.pages.proofs.PartLaws.{from_front, rising_front, rising_back}

pub rows_of-append : {S X : Type 0} (rows : S → List X) (ss ts : List S) → rows_of rows (ss ++ ts) ≡ rows_of rows ss ++ rows_of rows ts
rows_of-append rows [] ts = refl
rows_of-append rows (s ∷ ss) ts = ap (λ ys. rows s ++ ys) (rows_of-append rows ss ts) ∙ sym (append_assoc (rows s) (rows_of rows ss) (rows_of rows ts))

module _ {S K X : Type 0} (start : S → K) (rows : S → List X) where
  pub alike_push : (ss ts : List S) (s t : S) → AreAlike start rows ss ts → start s ≡ start t → rows s ≡ rows t → AreAlike start rows (ss ++ s ∷ []) (ts ++ t ∷ [])
  alike_push [] [] s t h a b = (a, b, tt)
  alike_push [] (t' ∷ ts) s t h a b = absurd h
  alike_push (s' ∷ ss) [] s t h a b = absurd h
  alike_push (s' ∷ ss) (t' ∷ ts) s t h a b = (h.0, h.1, alike_push ss ts s t h.2 a b)

  take_more : (ts : List S) (i : ℕ) (d : S) → i < length ts → take (suc i) ts ≡ take i ts ++ get_or ts i d ∷ []
  take_more [] i d lt = absurd (omega arith)
  take_more (t ∷ ts) zero d lt = refl
  take_more (t ∷ ts) (suc i) d lt = ap (λ zs. t ∷ zs) (take_more ts i d (omega arith))

  pub alike_more : (copies more ts : List S) (i : ℕ) (d s : S) → i < length ts → AreAlike start rows copies (take i ts) → more ≡ copies ++ s ∷ [] → start s ≡ start (get_or ts i d) → rows s ≡ rows (get_or ts i d) → AreAlike start rows more (take (i + 1) ts)
  alike_more copies more ts i d s lt h e a b = subst (λ zs. AreAlike start rows zs (take (i + 1) ts)) (sym e) (subst (λ zs. AreAlike start rows (copies ++ s ∷ []) zs) (sym (ap (λ (n : ℕ). take n ts) (add-one i) ∙ take_more ts i d lt)) (alike_push copies (take i ts) s (get_or ts i d) h a b))

  alike_itself : (ss : List S) → AreAlike start rows ss ss
  alike_itself [] = tt
  alike_itself (s ∷ ss) = (refl, refl, alike_itself ss)

  pub alike_set : (ss : List S) (at : ℕ) (new d : S) → start new ≡ start (get_or ss at d) → rows new ≡ rows (get_or ss at d) → AreAlike start rows (set ss at new) ss
  alike_set [] at new d a b = tt
  alike_set (s ∷ ss) zero new d a b = (a, b, alike_itself ss)
  alike_set (s ∷ ss) (suc at) new d a b = (refl, refl, alike_set ss at new d a b)

  pub alike_rows : (ss ts : List S) → AreAlike start rows ss ts → rows_of rows ss ≡ rows_of rows ts
  alike_rows [] [] h = refl
  alike_rows [] (t ∷ ts) h = absurd h
  alike_rows (s ∷ ss) [] h = absurd h
  alike_rows (s ∷ ss) (t ∷ ts) h = ap (λ ys. ys ++ rows_of rows ss) h.1 ∙ ap (λ ys. rows t ++ ys) (alike_rows ss ts h.2)

  module _ (R : K → K → Ordering) (key : X → K) where
    alike_above : (k : K) (ss ts : List S) → AreAlike start rows ss ts → T (is_below R start k ts) → T (is_below R start k ss)
    alike_above k [] [] h g = tt
    alike_above k [] (t ∷ ts) h g = absurd h
    alike_above k (s ∷ ss) [] h g = absurd h
    alike_above k (s ∷ ss) (t ∷ ts) h g = both _ _ (subst (λ j. T (is_lt (R k j))) (sym h.0) (first _ _ g)) (alike_above k ss ts h.2 (second _ _ g))

    alike_firsts : (ss ts : List S) → AreAlike start rows ss ts → T (is_rising R start ts) → T (is_rising R start ss)
    alike_firsts [] [] h g = tt
    alike_firsts [] (t ∷ ts) h g = absurd h
    alike_firsts (s ∷ ss) [] h g = absurd h
    alike_firsts (s ∷ ss) (t ∷ ts) h g = both _ _ (subst (λ j. T (is_below R start j ss)) (sym h.0) (alike_above (start t) ss ts h.2 (first _ _ g))) (alike_firsts ss ts h.2 (second _ _ g))

    alike_before : (ys : List X) (ss ts : List S) → AreAlike start rows ss ts → T (are_before R key start rows ys ts) → T (are_before R key start rows ys ss)
    alike_before ys [] [] h g = tt
    alike_before ys [] (t ∷ ts) h g = absurd h
    alike_before ys (s ∷ ss) [] h g = absurd h
    alike_before ys (s ∷ ss) (t ∷ ts) h g = both _ _ (subst (λ j. T (are_below R key j ys)) (sym h.0) (first _ _ g)) (alike_before ys ss ts h.2 (second _ _ g))

    alike_apart : (ss ts : List S) → AreAlike start rows ss ts → AreApart R key start rows ts → AreApart R key start rows ss
    alike_apart [] [] h g = tt
    alike_apart [] (t ∷ ts) h g = absurd h
    alike_apart (s ∷ ss) [] h g = absurd h
    alike_apart (s ∷ ss) (t ∷ ts) h g = (
      subst (λ ys. T (are_from R key (start s) ys)) (sym (alike_rows (s ∷ ss) (t ∷ ts) h)) (subst (λ k. T (are_from R key k (rows_of rows (t ∷ ts)))) (sym h.0) g.0),
      subst (λ ys. T (are_before R key start rows ys ss)) (sym h.1) (alike_before (rows t) ss ts h.2 g.1),
      alike_apart ss ts h.2 g.2,
    )

    pub alike_parted : (ss ts : List S) → AreAlike start rows ss ts → Parted R key start rows ts → Parted R key start rows ss
    alike_parted ss ts h p = record {
      rising = subst (λ ys. T (is_rising R key ys)) (sym (alike_rows ss ts h)) p.rising;
      firsts = alike_firsts ss ts h p.firsts;
      apart = alike_apart ss ts h p.apart;
    }

    module _ (o : IsTotalOrder R) where
      before_front : (ys : List X) (ss ts : List S) → T (are_before R key start rows ys (ss ++ ts)) → T (are_before R key start rows ys ss)
      before_front ys [] ts h = tt
      before_front ys (s ∷ ss) ts h = both _ _ (first _ _ h) (before_front ys ss ts (second _ _ h))

      apart_front : (ss ts : List S) → AreApart R key start rows (ss ++ ts) → AreApart R key start rows ss
      apart_front [] ts h = tt
      apart_front (s ∷ ss) ts h = (
        from_front R key o (start s) (rows_of rows (s ∷ ss)) (rows_of rows ts) (subst (λ ys. T (are_from R key (start s) ys)) (rows_of-append rows (s ∷ ss) ts) h.0),
        before_front (rows s) ss ts h.1,
        apart_front ss ts h.2,
      )

      apart_back : (ss ts : List S) → AreApart R key start rows (ss ++ ts) → AreApart R key start rows ts
      apart_back [] ts h = h
      apart_back (s ∷ ss) ts h = apart_back ss ts h.2

      pub parted_take : (n : ℕ) (ss : List S) → Parted R key start rows ss → Parted R key start rows (take n ss)
      parted_take n ss p =
          let whole : Parted R key start rows (take n ss ++ drop n ss) = subst (λ zs. Parted R key start rows zs) (sym (take-append-drop n ss)) p in
          record {
            rising = rising_front R key o (rows_of rows (take n ss)) (rows_of rows (drop n ss)) (subst (λ ys. T (is_rising R key ys)) (rows_of-append rows (take n ss) (drop n ss)) whole.rising);
            firsts = rising_front R start o (take n ss) (drop n ss) whole.firsts;
            apart = apart_front (take n ss) (drop n ss) whole.apart;
          }

      pub parted_drop : (n : ℕ) (ss : List S) → Parted R key start rows ss → Parted R key start rows (drop n ss)
      parted_drop n ss p =
          let whole : Parted R key start rows (take n ss ++ drop n ss) = subst (λ zs. Parted R key start rows zs) (sym (take-append-drop n ss)) p in
          record {
            rising = rising_back R key o (rows_of rows (take n ss)) (rows_of rows (drop n ss)) (subst (λ ys. T (is_rising R key ys)) (rows_of-append rows (take n ss) (drop n ss)) whole.rising);
            firsts = rising_back R start o (take n ss) (drop n ss) whole.firsts;
            apart = apart_back (take n ss) (drop n ss) whole.apart;
          }
