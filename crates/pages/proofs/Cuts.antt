-- A row taken out of the part that has it is taken out of the whole, and keeps the parts.
use Rattle.std.proofs.Common.{◌≡◌, ℕ, zero, suc, ◌+◌, true, false, not, cond, T, List, [], ◌∷◌, ◌++◌, length, get_or, set, Some, None, is_some, refl, sym, ap, subst, ◌∙◌, arith}
use Rattle.std.specs.declared.cmp.Ordering.{Ordering}
use Rattle.std.specs.declared.cmp.Ordering.TheVariants.{Less}
use Rattle.std.specs.Ordering.{is_lt, is_eq}
use Rattle.std.specs.Cmp.{IsTotalOrder}
use Rattle.pages.specs.Rows.{is_below, is_rising, row_of, has_row, without}
use Rattle.pages.specs.Inner.Parts.{rows_of, are_below, are_from, are_before, AreApart, Parted, Leads}
use Rattle.pages.proofs.RowLaws.{both, first, second, less, equal, none_below, below_tied}
use Rattle.pages.proofs.Without.{without_none, rising_without}
use Rattle.pages.proofs.PartLaws.{turned, not_below_itself, from_append, from_front, from_back, rest_below, front_is_below, next_leads}
use Rattle.pages.proofs.Keeps.{before_set, firsts_put}

module _ {K X : Type 0} (R : K → K → Ordering) (key : X → K) (o : IsTotalOrder R) where
  -- where all rows are above the key, or all below it, none goes
  without_above : (k : K) (ys : List X) → T (is_below R key k ys) → without R key k ys ≡ ys
  without_above k ys h = without_none R key o k ys (none_below R key o k ys h)

  none_above : (k : K) (ys : List X) → T (are_below R key k ys) → row_of R key k ys ≡ None
  none_above k [] h = refl
  none_above k (y ∷ ys) h = ap (λ r. cond (is_eq r) (Some y) (row_of R key k ys)) (turned R key o (key y) k Less (less _ (first _ _ h))) ∙ none_above k ys (second _ _ h)

  without_below : (k : K) (ys : List X) → T (are_below R key k ys) → without R key k ys ≡ ys
  without_below k ys h = without_none R key o k ys (none_above k ys h)

  without-append : (k : K) (xs ys : List X) → without R key k (xs ++ ys) ≡ without R key k xs ++ without R key k ys
  without-append k [] ys = refl
  without-append k (x ∷ xs) ys =
      elim (is_eq (R k (key x))) as (λ b. cond (not b) (x ∷ without R key k (xs ++ ys)) (without R key k (xs ++ ys)) ≡ cond (not b) (x ∷ without R key k xs) (without R key k xs) ++ without R key k ys) [
        | true ↦ without-append k xs ys
        | false ↦ ap (λ zs. x ∷ zs) (without-append k xs ys)
      ]

  -- of rows in strictly rising key one goes, where the key has a row
  pub length-cut : (k : K) (ys : List X) → T (is_rising R key ys) → T (has_row R key k ys) → length (without R key k ys) + 1 ≡ length ys
  length-cut k [] h there = absurd there
  length-cut k (y ∷ ys) h there =
      elim (is_eq (R k (key y))) as (λ b. is_eq (R k (key y)) ≡ b → T (is_some (cond b (Some y) (row_of R key k ys))) → length (cond (not b) (y ∷ without R key k ys) (without R key k ys)) + 1 ≡ suc (length ys)) [
        | true ↦ λ e _.
            let rest : length (without R key k ys) ≡ length ys = ap length (without_above k ys (below_tied R key o k (key y) ys (equal _ (subst T (sym e) tt)) (first _ _ h))) in
            omega (arith, rest)
        | false ↦ λ _ t. let rest : length (without R key k ys) + 1 ≡ length ys = length-cut k ys (second _ _ h) t in omega (arith, rest)
      ] refl there

  from_without : (j k : K) (ys : List X) → T (are_from R key j ys) → T (are_from R key j (without R key k ys))
  from_without j k [] h = tt
  from_without j k (y ∷ ys) h =
      elim (is_eq (R k (key y))) as (λ b. T (are_from R key j (cond (not b) (y ∷ without R key k ys) (without R key k ys)))) [
        | true ↦ from_without j k ys (second _ _ h)
        | false ↦ both _ _ (first _ _ h) (from_without j k ys (second _ _ h))
      ]

  all_below : (j k : K) (ys : List X) → T (are_below R key j ys) → T (are_below R key j (without R key k ys))
  all_below j k [] h = tt
  all_below j k (y ∷ ys) h =
      elim (is_eq (R k (key y))) as (λ b. T (are_below R key j (cond (not b) (y ∷ without R key k ys) (without R key k ys)))) [
        | true ↦ all_below j k ys (second _ _ h)
        | false ↦ both _ _ (first _ _ h) (all_below j k ys (second _ _ h))
      ]

  module _ {S : Type 0} (start : S → K) (rows : S → List X) where
    before_without : (k : K) (ys : List X) (ss : List S) → T (are_before R key start rows ys ss) → T (are_before R key start rows (without R key k ys) ss)
    before_without k ys [] h = tt
    before_without k ys (s ∷ ss) h = both _ _ (all_below (start s) k ys (first _ _ h)) (before_without k ys ss (second _ _ h))

    pub cut-parts : (k : K) (ss : List S) (at : ℕ) (d new : S) → Leads R key start rows k ss at → AreApart R key start rows ss → rows new ≡ without R key k (rows (get_or ss at d)) → rows_of rows (set ss at new) ≡ without R key k (rows_of rows ss)
    cut-parts k [] at d new l h e = absurd (omega (arith, l.0))
    cut-parts k (s ∷ ss) zero d new l h e = ap (λ ys. ys ++ rows_of rows ss) e
        ∙ sym (without-append k (rows s) (rows_of rows ss) ∙ ap (λ zs. without R key k (rows s) ++ zs) (without_above k (rows_of rows ss) (rest_below R key o start rows k s ss l h)))
    cut-parts k (s ∷ ss) (suc at) d new l h e = ap (λ ys. rows s ++ ys) (cut-parts k ss at d new (next_leads R key o start rows k s ss at l) h.2 e)
        ∙ sym (without-append k (rows s) (rows_of rows ss) ∙ ap (λ zs. zs ++ without R key k (rows_of rows ss)) (without_below k (rows s) (front_is_below R key o start rows k s ss at l h)))

    apart_cut : (k : K) (ss : List S) (at : ℕ) (d new : S) → Leads R key start rows k ss at → AreApart R key start rows ss → start new ≡ start (get_or ss at d) → rows new ≡ without R key k (rows (get_or ss at d)) → AreApart R key start rows (set ss at new)
    apart_cut k [] at d new l h a e = absurd (omega (arith, l.0))
    apart_cut k (s ∷ ss) zero d new l h a e =
        let others = rows_of rows ss in (
          subst (λ j. T (are_from R key j (rows new ++ others))) (sym a) (subst (λ ys. T (are_from R key (start s) (ys ++ others))) (sym e)
              (from_append R key o (start s) (without R key k (rows s)) others (from_without (start s) k (rows s) (from_front R key o (start s) (rows s) others h.0)) (from_back R key o (start s) (rows s) others h.0))),
          subst (λ ys. T (are_before R key start rows ys ss)) (sym e) (before_without k (rows s) ss h.1),
          h.2,
        )
    apart_cut k (s ∷ ss) (suc at) d new l h a e =
        let next = next_leads R key o start rows k s ss at l in (
          subst (λ ys. T (are_from R key (start s) (rows s ++ ys))) (sym (cut-parts k ss at d new next h.2 e))
              (from_append R key o (start s) (rows s) (without R key k (rows_of rows ss)) (from_front R key o (start s) (rows s) (rows_of rows ss) h.0)
              (from_without (start s) k (rows_of rows ss) (from_back R key o (start s) (rows s) (rows_of rows ss) h.0))),
          before_set R key o start rows (rows s) ss at new d a h.1,
          apart_cut k ss at d new next h.2 a e,
        )

    pub parted_cut : (k : K) (ss : List S) (at : ℕ) (d new : S) → Leads R key start rows k ss at → Parted R key start rows ss → start new ≡ start (get_or ss at d) → rows new ≡ without R key k (rows (get_or ss at d)) → Parted R key start rows (set ss at new)
    parted_cut k ss at d new l p a e = record {
      rising = subst (λ ys. T (is_rising R key ys)) (sym (cut-parts k ss at d new l p.apart e)) (rising_without R key o k (rows_of rows ss) p.rising);
      firsts = firsts_put R key o start rows ss at d new p.firsts (subst (λ j. T (not (is_lt (R (start (get_or ss at d)) j)))) (sym a) (not_below_itself R key o (start (get_or ss at d)))) (λ _. a);
      apart = apart_cut k ss at d new l p.apart a e;
    }
