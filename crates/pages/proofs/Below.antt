-- How many rows come before a key, and which come from it on.
use Rattle.std.proofs.Common.{◌≡◌, ℕ, zero, suc, ◌+◌, ◌<◌, ◌≤◌, true, false, not, cond, T, List, [], ◌∷◌, ◌++◌, length, get_or, take, drop, refl, sym, ap, subst, ◌∙◌, arith, Ok, Err, Option, Some, None, length-append}
use Rattle.std.specs.Prelude.{option_map, IfSome}
use Rattle.std.specs.Option.{MatchOption}
use Rattle.std.specs.List.{slice_get}
use Rattle.std.proofs.lemmas.Option.{slice_get_past, slice_get_read}
use Rattle.std.proofs.lemmas.List.Elements.{filter-append}
use Rattle.std.specs.declared.cmp.Ordering.{Ordering}
use Rattle.std.specs.declared.cmp.Ordering.TheVariants.{Less, Equal}
use Rattle.std.specs.Ordering.{is_lt}
use Rattle.std.specs.Cmp.{IsTotalOrder, alike_right}
use Rattle.pages.specs.Rows.{is_rising, rows_from}
use Rattle.pages.specs.Inner.Below.{count_below}
use Rattle.pages.specs.Inner.Parts.{rows_of, are_below, are_from, AreApart, Leads, FirstsSplit}
use Rattle.pages.proofs.RowLaws.{first, second}
use Rattle.pages.proofs.Positions.{below_at}
use Rattle.pages.proofs.PartLaws.{above_head, from_down, rest_below, front_is_below, next_leads}

module _ {K X : Type 0} (R : K → K → Ordering) (key : X → K) (o : IsTotalOrder R) where
  none_lower : (k : K) (ys : List X) → T (are_from R key k ys) → count_below R key k ys ≡ 0
  none_lower k [] h = refl
  none_lower k (y ∷ ys) h =
      elim (is_lt (R (key y) k)) as (λ b. T (not b) → cond b (suc (count_below R key k ys)) (count_below R key k ys) ≡ 0) [
        | true ↦ λ n. absurd n
        | false ↦ λ n. none_lower k ys (second _ _ h)
      ] (first _ _ h)

  all_lower : (k : K) (ys : List X) → T (are_below R key k ys) → count_below R key k ys ≡ length ys
  all_lower k [] h = refl
  all_lower k (y ∷ ys) h =
      elim (is_lt (R (key y) k)) as (λ b. T b → cond b (suc (count_below R key k ys)) (count_below R key k ys) ≡ suc (length ys)) [
        | true ↦ λ n. ap suc (all_lower k ys (second _ _ h))
        | false ↦ λ n. absurd n
      ] (first _ _ h)

  count-append : (k : K) (xs ys : List X) → count_below R key k (xs ++ ys) ≡ count_below R key k xs + count_below R key k ys
  count-append k [] ys = from_none (count_below R key k ys)
    where
      from_none : (n : ℕ) → n ≡ 0 + n
      from_none n = omega arith
  count-append k (x ∷ xs) ys =
      let rest : count_below R key k (xs ++ ys) ≡ count_below R key k xs + count_below R key k ys = count-append k xs ys in
      elim (is_lt (R (key x) k)) as (λ b. cond b (suc (count_below R key k (xs ++ ys))) (count_below R key k (xs ++ ys)) ≡ cond b (suc (count_below R key k xs)) (count_below R key k xs) + count_below R key k ys) [
        | true ↦ omega arith
        | false ↦ omega arith
      ]

  -- the rows behind those of lower keys are those from the key on
  pub from_position : (k : K) (ys : List X) → T (is_rising R key ys) → drop (count_below R key k ys) ys ≡ rows_from R key k ys
  from_position k [] h = refl
  from_position k (y ∷ ys) h =
      elim (is_lt (R (key y) k)) as (λ b. is_lt (R (key y) k) ≡ b → drop (cond b (suc (count_below R key k ys)) (count_below R key k ys)) (y ∷ ys) ≡ cond (not b) (y ∷ rows_from R key k ys) (rows_from R key k ys)) [
        | true ↦ λ e. from_position k ys (second _ _ h)
        | false ↦ λ e.
            let up : T (are_from R key k ys) = from_down R key o (key y) k ys (above_head R key o (key y) ys (first _ _ h)) (subst (λ b. T (not b)) (sym e) tt) in
            ap (λ (n : ℕ). drop n (y ∷ ys)) (none_lower k ys up) ∙ ap (λ zs. y ∷ zs) (sym (all_from k ys up))
      ] refl
    where
      all_from : (k : K) (ys : List X) → T (are_from R key k ys) → rows_from R key k ys ≡ ys
      all_from k [] h = refl
      all_from k (y ∷ ys) h =
          elim (is_lt (R (key y) k)) as (λ b. T (not b) → cond (not b) (y ∷ rows_from R key k ys) (rows_from R key k ys) ≡ y ∷ ys) [
            | true ↦ λ n. absurd n
            | false ↦ λ n. ap (λ zs. y ∷ zs) (all_from k ys (second _ _ h))
          ] (first _ _ h)

  -- what a binary search finds is that number
  pub count_found : (k : K) (ys : List X) (at : ℕ) → T (is_rising R key ys) → FirstsSplit R key k ys (Ok at) → count_below R key k ys ≡ at
  count_found k [] at h s = absurd (omega (arith, s.0))
  count_found k (y ∷ ys) zero h s =
      let here : R (key y) k ≡ Equal = s.1 y in
      let up : T (are_from R key k ys) = from_down R key o (key y) k ys (above_head R key o (key y) ys (first _ _ h)) (subst (λ r. T (not (is_lt r))) (sym here) tt) in
      ap (λ r. cond (is_lt r) (suc (count_below R key k ys)) (count_below R key k ys)) here ∙ none_lower k ys up
  count_found k (y ∷ ys) (suc at) h s =
      let lt : at < length ys = omega (arith, s.0) in
      let under : R (key y) (key (get_or ys at y)) ≡ Less = below_at R key o (key y) ys at y (first _ _ h) lt in
      let low : R (key y) k ≡ Less = tied_up (key y) (key (get_or ys at y)) k under (s.1 y) in
      ap (λ r. cond (is_lt r) (suc (count_below R key k ys)) (count_below R key k ys)) low ∙ ap suc (count_found k ys at (second _ _ h) (lt, s.1))
    where
      tied_up : (a b c : K) → R a b ≡ Less → R b c ≡ Equal → R a c ≡ Less
      tied_up a b c p e = sym (alike_right o b c a e) ∙ p

  pub count_missed : (k : K) (ys : List X) (at : ℕ) → FirstsSplit R key k ys (Err at) → count_below R key k ys ≡ at
  count_missed k [] at s = let le = s.0 in omega arith
  count_missed k (y ∷ ys) zero s =
      ap (λ r. cond (is_lt r) (suc (count_below R key k ys)) (count_below R key k ys)) (s.2 0 y (omega arith) (omega arith))
      ∙ count_missed k ys zero (omega arith, λ i d lt. absurd (omega arith), λ i d le lt. s.2 (suc i) d (omega arith) (omega arith))
  count_missed k (y ∷ ys) (suc at) s =
      ap (λ r. cond (is_lt r) (suc (count_below R key k ys)) (count_below R key k ys)) (s.1 0 y (omega arith))
      ∙ ap suc (count_missed k ys at (omega (arith, s.0), λ i d lt. s.1 (suc i) d (omega arith), λ i d le lt. s.2 (suc i) d (omega arith) (omega arith)))

  -- the first row of two lists that stand one behind the other
  pub first_here : (xs ys : List X) (x : X) → Some x ≡ slice_get xs 0 → Some x ≡ slice_get (xs ++ ys) 0
  first_here [] ys x h = absurd cc
  first_here (y ∷ xs) ys x h = h

  pub first_behind : (xs ys : List X) (z : Option X) → None ≡ slice_get xs 0 → z ≡ slice_get ys 0 → z ≡ slice_get (xs ++ ys) 0
  first_behind [] ys z none h = h
  first_behind (x ∷ xs) ys z none h = absurd cc

  -- what is read at a position
  pub read_at : {B : Type 0} (now : B → X) (P : B → Type 0) (z : Option B) (xs : List X) (i : ℕ) → MatchOption z (length xs ≤ i) (λ x. (i < length xs) × P x) → IfSome z (λ x. now x ≡ get_or xs i (now x)) → option_map now z ≡ slice_get xs i
  read_at now P None xs i m h = sym (slice_get_past xs i m)
  read_at now P (Some b) xs i m h = sym (slice_get_read xs (length xs) i (now b) refl m.0 h)

  -- the first row from a key on stands where those of lower keys end
  pub first_at : (k : K) (ys : List X) → T (is_rising R key ys) → slice_get ys (count_below R key k ys) ≡ slice_get (rows_from R key k ys) 0
  first_at k ys h = sym (first_dropped (count_below R key k ys) ys) ∙ ap (λ zs. slice_get zs 0) (from_position k ys h)
    where
      first_dropped : (n : ℕ) (zs : List X) → slice_get (drop n zs) 0 ≡ slice_get zs n
      first_dropped zero zs = refl
      first_dropped (suc n) [] = refl
      first_dropped (suc n) (z ∷ zs) = first_dropped n zs

  module _ {S : Type 0} (start : S → K) (rows : S → List X) where
    pub count-parts : (k : K) (ss : List S) (at : ℕ) (d : S) → Leads R key start rows k ss at → AreApart R key start rows ss
        → count_below R key k (rows_of rows ss) ≡ length (rows_of rows (take at ss)) + count_below R key k (rows (get_or ss at d))
    count-parts k [] at d l h = absurd (omega (arith, l.0))
    count-parts k (s ∷ ss) zero d l h =
        let here = count-append k (rows s) (rows_of rows ss) in
        let none = none_lower k (rows_of rows ss) (above_head R key o k (rows_of rows ss) (rest_below R key o start rows k s ss l h)) in
        omega (arith, here, none)
    count-parts k (s ∷ ss) (suc at) d l h =
        let here = count-append k (rows s) (rows_of rows ss) in
        let low = all_lower k (rows s) (front_is_below R key o start rows k s ss at l h) in
        let rest = count-parts k ss at d (next_leads R key o start rows k s ss at l) h.2 in
        let size = length-append (rows s) (rows_of rows (take at ss)) in
        omega (arith, here, low, rest, size)

    -- it is no more than all
    none_from : (k : K) (ys : List X) → T (are_below R key k ys) → rows_from R key k ys ≡ []
    none_from k [] h = refl
    none_from k (y ∷ ys) h =
        elim (is_lt (R (key y) k)) as (λ b. T b → cond (not b) (y ∷ rows_from R key k ys) (rows_from R key k ys) ≡ []) [
          | true ↦ λ n. none_from k ys (second _ _ h)
          | false ↦ λ n. absurd n
        ] (first _ _ h)

    all_from : (k : K) (ys : List X) → T (are_from R key k ys) → rows_from R key k ys ≡ ys
    all_from k [] h = refl
    all_from k (y ∷ ys) h =
        elim (is_lt (R (key y) k)) as (λ b. T (not b) → cond (not b) (y ∷ rows_from R key k ys) (rows_from R key k ys) ≡ y ∷ ys) [
          | true ↦ λ n. absurd n
          | false ↦ λ n. ap (λ zs. y ∷ zs) (all_from k ys (second _ _ h))
        ] (first _ _ h)

    -- the rows from a key on are those of the part that leads to it, and all behind
    pub from-parts : (k : K) (ss : List S) (at : ℕ) (d : S) → Leads R key start rows k ss at → AreApart R key start rows ss
        → rows_from R key k (rows_of rows ss) ≡ rows_from R key k (rows (get_or ss at d)) ++ rows_of rows (drop (suc at) ss)
    from-parts k [] at d l h = absurd (omega (arith, l.0))
    from-parts k (s ∷ ss) zero d l h =
        let here = filter-append (λ y. not (is_lt (R (key y) k))) (rows s) (rows_of rows ss) in
        here ∙ ap (λ zs. rows_from R key k (rows s) ++ zs) (all_from k (rows_of rows ss) (above_head R key o k (rows_of rows ss) (rest_below R key o start rows k s ss l h)))
    from-parts k (s ∷ ss) (suc at) d l h =
        let here = filter-append (λ y. not (is_lt (R (key y) k))) (rows s) (rows_of rows ss) in
        here ∙ ap (λ zs. zs ++ rows_from R key k (rows_of rows ss)) (none_from k (rows s) (front_is_below R key o start rows k s ss at l h))
        ∙ from-parts k ss at d (next_leads R key o start rows k s ss at l) h.2

    pub count_within : (k : K) (ys : List X) → count_below R key k ys ≤ length ys
    count_within k [] = omega arith
    count_within k (y ∷ ys) =
        let rest : count_below R key k ys ≤ length ys = count_within k ys in
        elim (is_lt (R (key y) k)) as (λ b. cond b (suc (count_below R key k ys)) (count_below R key k ys) ≤ suc (length ys)) [
          | true ↦ omega arith
          | false ↦ omega arith
        ]
