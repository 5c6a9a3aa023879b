-- The part that a search leads to, as the code has it.
use Rattle.std.proofs.Common.{◌≡◌, ℕ, zero, suc, ◌+◌, ◌-◌, ◌<◌, ◌≤◌, Bool, true, false, not, cond, T, List, [], ◌∷◌, ◌++◌, length, get_or, set, take, drop, Ok, Err, Some, refl, sym, ap, subst, ◌∙◌, arith, add-one, append_assoc, length-append}
use Rattle.std.specs.Prelude.{insert, is_some}
use Rattle.std.specs.List.{slice_get}
use Rattle.std.specs.declared.cmp.Ordering.{Ordering}
use Rattle.std.specs.declared.cmp.Ordering.TheVariants.{Less, Equal, Greater}
use Rattle.std.specs.Ordering.{is_lt}
use Rattle.std.specs.Cmp.{IsTotalOrder}
use Rattle.pages.specs.Rows.{is_rising, row_of, has_row, put, without}
use Rattle.std.proofs.lemmas.List.{take-append-le, drop-append-le}
use Rattle.std.proofs.Math.Seq.{drop-append-add}
use Rattle.pages.specs.Inner.Parts.{rows_of, Parted, Leads, FirstsSplit}
use Rattle.pages.specs.Runs.{IsRun}
use Rattle.pages.proofs.RowLaws.{length-put, less}
use Rattle.pages.proofs.Positions.{rising_at, turned}
use Rattle.pages.proofs.PartLaws.{row_of-parts, put-parts}
use Rattle.pages.proofs.Keeps.{parted_put_at, parted_split, rows_split}
use Rattle.pages.proofs.Cuts.{cut-parts, parted_cut}
use Rattle.pages.proofs.Sublists.{alike_set, alike_parted, alike_rows}

true_false : true ≡ false → ⊥
true_false e = cc

module _ {X : Type 0} where
  none_some : (y : X) → slice_get [] 0 ≡ Some y → ⊥
  none_some y e = cc

  pub take-nil : (n : ℕ) → take {A = X} n [] ≡ []
  take-nil zero = refl
  take-nil (suc n) = refl

  same_head : (r z : X) (rs zs : List X) → r ∷ rs ≡ z ∷ zs → r ≡ z
  same_head r z rs zs e = cc

  -- what has a row in a run from its start has rows
  pub some_of_run : (ys run : List X) (y : X) → IsRun ys 0 run → slice_get run 0 ≡ Some y → 0 < length ys
  some_of_run [] run y h e =
      let none : slice_get [] 0 ≡ Some y = ap (λ (zs : List X). slice_get zs 0) (sym (h.0 ∙ take-nil (length run))) ∙ e in
      absurd (none_some y none)
  some_of_run (x ∷ ys) run y h e = omega arith

  pub head_of_run : (ys run : List X) (y : X) → IsRun ys 0 run → slice_get run 0 ≡ Some y → slice_get ys 0 ≡ Some y
  head_of_run [] run y h e = e0 ∙ e
    where
      e0 : slice_get [] 0 ≡ slice_get run 0
      e0 = ap (λ (zs : List X). slice_get zs 0) (sym (h.0 ∙ take-nil (length run)))
  head_of_run (z ∷ zs) [] y h e = absurd (none_some y e)
  head_of_run (z ∷ zs) (r ∷ rs) y h e = ap Some (sym (same_head r z rs (take (length rs) zs) h.0)) ∙ e

  length-take-le : (n : ℕ) (xs : List X) → length (take n xs) ≤ length xs
  length-take-le zero xs = omega arith
  length-take-le (suc n) [] = omega arith
  length-take-le (suc n) (x ∷ xs) = let h = length-take-le n xs in omega (arith, h)

  pub run_fits : (n : ℕ) (run xs : List X) → run ≡ take n xs → length run ≤ length xs
  run_fits n run xs e = subst (λ (zs : List X). length zs ≤ length xs) (sym e) (length-take-le n xs)

  pub run_within : (front page others run : List X) (left position : ℕ) → length front + left ≡ position → left < length page → IsRun page left run → IsRun (front ++ (page ++ others)) position run
  run_within front page others run left position e lt h =
      let from : drop position (front ++ (page ++ others)) ≡ drop left page ++ others =
      ap (λ (n : ℕ). drop n (front ++ (page ++ others))) (sym e) ∙ drop-append-add front (page ++ others) left ∙ drop-append-le left page others (omega arith) in
      (h.0 ∙ sym (ap (take (length run)) from ∙ take-append-le (length run) (drop left page) others (run_fits (length run) run (drop left page) h.0)), λ le. h.1 lt)

  pub no_run : (ys : List X) (position : ℕ) → length ys ≤ position → IsRun ys position []
  no_run ys position le = (refl, λ lt. absurd (omega arith))

module _ {S X : Type 0} (rows : S → List X) where
  pub parts_at : (ss : List S) (i : ℕ) (d : S) → i < length ss → rows_of rows ss ≡ rows_of rows (take i ss) ++ (rows (get_or ss i d) ++ rows_of rows (drop (suc i) ss))
  parts_at [] i d lt = absurd (omega arith)
  parts_at (s ∷ ss) zero d lt = refl
  parts_at (s ∷ ss) (suc i) d lt = ap (λ ys. rows s ++ ys) (parts_at ss i d (omega arith)) ∙ sym (append_assoc (rows s) (rows_of rows (take i ss)) (rows (get_or ss i d) ++ rows_of rows (drop (suc i) ss)))

  pub parts_more : (ss : List S) (i : ℕ) (d : S) → i < length ss → length (rows_of rows (take (i + 1) ss)) ≡ length (rows_of rows (take i ss)) + length (rows (get_or ss i d))
  parts_more ss i d lt = ap (λ (n : ℕ). length (rows_of rows (take n ss))) (add-one i) ∙ more ss i d lt
    where
      more : (ss : List S) (i : ℕ) (d : S) → i < length ss → length (rows_of rows (take (suc i) ss)) ≡ length (rows_of rows (take i ss)) + length (rows (get_or ss i d))
      more [] i d lt = absurd (omega arith)
      more (s ∷ ss) zero d lt = length-append (rows s) [] ∙ omega arith
      more (s ∷ ss) (suc i) d lt = let h = more ss i d (omega arith) in length-append (rows s) (rows_of rows (take (suc i) ss)) ∙ ap (λ (n : ℕ). length (rows s) + n) h ∙ omega (arith, length-append (rows s) (rows_of rows (take i ss)))

  -- some parts in front have no more rows than all
  pub front_within : (ss : List S) (n : ℕ) → length (rows_of rows (take n ss)) ≤ length (rows_of rows ss)
  front_within [] zero = omega arith
  front_within [] (suc n) = omega arith
  front_within (s ∷ ss) zero = omega arith
  front_within (s ∷ ss) (suc n) =
      let rest = front_within ss n in
      let here = length-append (rows s) (rows_of rows (take n ss)) in
      let all = length-append (rows s) (rows_of rows ss) in
      omega (arith, rest, here, all)

  -- one part more of some in front
  pub one_part_more : (ss : List S) (at i : ℕ) (d : S) → i < length (take at ss) → d ≡ get_or (take at ss) i d → length (rows_of rows (take i (take at ss))) + length (rows d) ≤ length (rows_of rows ss)
  one_part_more ss at i d lt e =
      let m = parts_more (take at ss) i d lt in
      let q : length (rows d) ≡ length (rows (get_or (take at ss) i d)) = ap (λ z. length (rows z)) e in
      let some = front_within (take at ss) (i + 1) in
      let all = front_within ss at in
      omega (arith, m, q, some, all)

  pub all_parts : (ss : List S) (i : ℕ) → length ss ≤ i → take i ss ≡ ss
  all_parts [] zero le = refl
  all_parts [] (suc i) le = refl
  all_parts (s ∷ ss) zero le = absurd (omega arith)
  all_parts (s ∷ ss) (suc i) le = ap (λ zs. s ∷ zs) (all_parts ss i (omega arith))

  pub next_position : (ss : List S) (i : ℕ) (d : S) (left count position : ℕ) → i < length ss → d ≡ get_or ss i d → count ≡ length (rows d) → count ≤ left → length (rows_of rows (take i ss)) + left ≡ position → length (rows_of rows (take (i + 1) ss)) + (left - count) ≡ position
  next_position ss i d left count position lt e c le h =
      let m = parts_more ss i d lt in
      let q : length (rows d) ≡ length (rows (get_or ss i d)) = ap (λ z. length (rows z)) e in
      omega (arith, m, q, c, le, h)

  pub run_here : (ss : List S) (i : ℕ) (d : S) (left position : ℕ) (run ys : List X) → i < length ss → d ≡ get_or ss i d → left < length (rows d) → length (rows_of rows (take i ss)) + left ≡ position → IsRun (rows d) left run → rows_of rows ss ≡ ys → IsRun ys position run
  run_here ss i d left position run ys lt e le h r v =
      let here : left < length (rows (get_or ss i d)) = subst (λ z. left < length (rows z)) e le in
      let part : IsRun (rows (get_or ss i d)) left run = subst (λ z. IsRun (rows z) left run) e r in
      subst (λ zs. IsRun zs position run) (sym (parts_at ss i d lt) ∙ v) (run_within (rows_of rows (take i ss)) (rows (get_or ss i d)) (rows_of rows (drop (suc i) ss)) run left position h here part)

  pub past_all : (ss : List S) (i left position : ℕ) (ys : List X) → length ss ≤ i → length (rows_of rows (take i ss)) + left ≡ position → rows_of rows ss ≡ ys → IsRun ys position []
  past_all ss i left position ys le h v =
      let all : length (rows_of rows (take i ss)) ≡ length (rows_of rows ss) = ap (λ zs. length (rows_of rows zs)) (all_parts ss i le) in
      subst (λ zs. IsRun zs position []) v (no_run (rows_of rows ss) position (omega (arith, all, h)))

  same_at : (ss : List S) (at : ℕ) (d e : S) → at < length ss → get_or ss at d ≡ get_or ss at e
  same_at [] at d e lt = absurd (omega arith)
  same_at (s ∷ ss) zero d e lt = refl
  same_at (s ∷ ss) (suc at) d e lt = same_at ss at d e (omega arith)

  pub one_place : (ss : List S) (at : ℕ) (d e : S) → at < length ss → d ≡ get_or ss at d → e ≡ get_or ss at e → e ≡ d
  one_place ss at d e lt a b = b ∙ same_at ss at e d lt ∙ sym a

module _ {K X : Type 0} (R : K → K → Ordering) (key : X → K) (o : IsTotalOrder R) where
  pub count_made : (x : X) (ys new : List X) (n : ℕ) (made : Bool) → T (is_rising R key ys) → n ≡ length ys → new ≡ put R key x ys → made ≡ not (has_row R key (key x) ys) → made ≡ true → n + 1 ≡ length new
  count_made x ys new n made r e p m t = elim (has_row R key (key x) ys) as (λ b. made ≡ not b → length (put R key x ys) ≡ cond b (length ys) (length ys + 1) → n + 1 ≡ length new) [
    | true ↦ λ q l. absurd (true_false (sym t ∙ q))
    | false ↦ λ q l. ap (λ (z : ℕ). z + 1) e ∙ sym l ∙ ap length (sym p)
  ] m (length-put R key o x ys r)

  pub count_kept : (x : X) (ys new : List X) (n : ℕ) (made : Bool) → T (is_rising R key ys) → n ≡ length ys → new ≡ put R key x ys → made ≡ not (has_row R key (key x) ys) → made ≡ false → n ≡ length new
  count_kept x ys new n made r e p m t = elim (has_row R key (key x) ys) as (λ b. made ≡ not b → length (put R key x ys) ≡ cond b (length ys) (length ys + 1) → n ≡ length new) [
    | true ↦ λ q l. e ∙ sym l ∙ ap length (sym p)
    | false ↦ λ q l. absurd (true_false (sym q ∙ t))
  ] m (length-put R key o x ys r)

  pub then_start : (x : X) (k s : K) (r : Ordering) (b : Bool) → k ≡ key x → r ≡ R k s → b ≡ is_lt r → b ≡ true → k ≡ cond (is_lt (R (key x) s)) (key x) s
  then_start x k s r b ek er eb et = ek ∙ ap (λ z. cond z (key x) s) (sym et ∙ eb ∙ ap is_lt er ∙ ap (λ q. is_lt (R q s)) ek)

  pub else_start : (x : X) (k s : K) (r : Ordering) (b : Bool) → k ≡ key x → r ≡ R k s → b ≡ is_lt r → b ≡ false → s ≡ cond (is_lt (R (key x) s)) (key x) s
  else_start x k s r b ek er eb ef = ap (λ z. cond z (key x) s) (sym ef ∙ eb ∙ ap is_lt er ∙ ap (λ q. is_lt (R q s)) ek)

  module _ {S : Type 0} (start : S → K) (rows : S → List X) where
    pub parted_here : (x : X) (ss : List S) (at : ℕ) (d new : S) → d ≡ get_or ss at d → Leads R key start rows (key x) ss at → Parted R key start rows ss
        → start new ≡ cond (is_lt (R (key x) (start d))) (key x) (start d) → rows new ≡ put R key x (rows d) → Parted R key start rows (set ss at new)
    parted_here x ss at d new e0 l p a e = parted_put_at R key o start rows x ss at d new l p
        (subst (λ z. start new ≡ cond (is_lt (R (key x) (start z))) (key x) (start z)) e0 a) (e ∙ ap (λ z. put R key x (rows z)) e0)

    pub rows_here : (x : X) (ss : List S) (at : ℕ) (d new : S) → d ≡ get_or ss at d → Leads R key start rows (key x) ss at → Parted R key start rows ss → rows new ≡ put R key x (rows d) → rows_of rows (set ss at new) ≡ put R key x (rows_of rows ss)
    rows_here x ss at d new e0 l p e = put-parts R key o start rows x ss at d new l p.apart (e ∙ ap (λ z. put R key x (rows z)) e0)

    pub found_here : (k : K) (ss : List S) (at : ℕ) (d : S) → d ≡ get_or ss at d → Leads R key start rows k ss at → Parted R key start rows ss → row_of R key k (rows d) ≡ row_of R key k (rows_of rows ss)
    found_here k ss at d e0 l p = ap (λ z. row_of R key k (rows z)) e0 ∙ sym (row_of-parts R key o start rows k ss at d l p.apart)

    pub made_here : (x : X) (ss : List S) (at : ℕ) (d : S) (made : Bool) → d ≡ get_or ss at d → Leads R key start rows (key x) ss at → Parted R key start rows ss → made ≡ not (has_row R key (key x) (rows d)) → made ≡ not (has_row R key (key x) (rows_of rows ss))
    made_here x ss at d made e0 l p e = e ∙ ap (λ z. not (is_some z)) (found_here (key x) ss at d e0 l p)

    pub there_here : (k : K) (ss : List S) (at : ℕ) (d : S) → d ≡ get_or ss at d → Leads R key start rows k ss at → Parted R key start rows ss → T (has_row R key k (rows_of rows ss)) → T (has_row R key k (rows d))
    there_here k ss at d e0 l p there = subst (λ z. T (is_some z)) (sym (found_here k ss at d e0 l p)) there

    pub cut_here : (k : K) (ss : List S) (at : ℕ) (d new : S) → d ≡ get_or ss at d → Leads R key start rows k ss at → Parted R key start rows ss → start new ≡ start d → rows new ≡ without R key k (rows d) → Parted R key start rows (set ss at new)
    cut_here k ss at d new e0 l p a e = parted_cut R key o start rows k ss at d new l p (a ∙ ap start e0) (e ∙ ap (λ z. without R key k (rows z)) e0)

    pub rows_cut_here : (k : K) (ss : List S) (at : ℕ) (d new : S) → d ≡ get_or ss at d → Leads R key start rows k ss at → Parted R key start rows ss → rows new ≡ without R key k (rows d) → rows_of rows (set ss at new) ≡ without R key k (rows_of rows ss)
    rows_cut_here k ss at d new e0 l p e = cut-parts R key o start rows k ss at d new l p.apart (e ∙ ap (λ z. without R key k (rows z)) e0)

    pub some_parts : (k : K) (ss : List S) → T (has_row R key k (rows_of rows ss)) → 0 < length ss
    some_parts k [] there = absurd there
    some_parts k (s ∷ ss) there = omega arith

    pub same_here : (ss : List S) (at : ℕ) (d new : S) → d ≡ get_or ss at d → start new ≡ start d → rows new ≡ rows d → Parted R key start rows ss → Parted R key start rows (set ss at new)
    same_here ss at d new e0 a e p = alike_parted start rows R key (set ss at new) ss (alike_set start rows ss at new d (a ∙ ap start e0) (e ∙ ap rows e0)) p

    pub rows_same_here : (ss : List S) (at : ℕ) (d new : S) → d ≡ get_or ss at d → start new ≡ start d → rows new ≡ rows d → rows_of rows (set ss at new) ≡ rows_of rows ss
    rows_same_here ss at d new e0 a e = alike_rows start rows (set ss at new) ss (alike_set start rows ss at new d (a ∙ ap start e0) (e ∙ ap rows e0))

    pub leads_at : (k : K) (ss : List S) (at : ℕ) → Parted R key start rows ss → FirstsSplit R start k ss (Ok at) → Leads R key start rows k ss at
    leads_at k ss at p f = (
      f.0,
      λ i d lt le. sym (o.congr (start (get_or ss at d)) k (start (get_or ss i d)) (f.1 d)) ∙ rising_at R start o ss at i d p.firsts lt le,
      λ lt d. subst (λ r. T (not (is_lt r))) (sym (turned R start o (start (get_or ss at d)) k Equal (f.1 d))) tt,
    )

    pub leads_first : (k : K) (ss : List S) → 0 < length ss → FirstsSplit R start k ss (Err 0) → Leads R key start rows k ss 0
    leads_first k ss some f = (some, λ i d lt le. turned R start o (start (get_or ss i d)) k Greater (f.2 i d (omega arith) le), λ lt d. absurd (omega arith))

    pub leads_before : (k : K) (ss : List S) (at n : ℕ) → n + 1 ≡ at → FirstsSplit R start k ss (Err at) → Leads R key start rows k ss n
    leads_before k ss at n e f = (
      omega (arith, f.0),
      λ i d lt le. turned R start o (start (get_or ss i d)) k Greater (f.2 i d (omega arith) le),
      λ lt d. subst (λ r. T (not (is_lt r))) (sym (turned R start o (start (get_or ss n d)) k Less (f.1 n d (omega arith)))) tt,
    )

    pub split_here : (l u : S) (ss : List S) (at : ℕ) (d : S) (y : X) → at < length ss → d ≡ get_or ss at d → start l ≡ start d → R (start d) (start u) ≡ Less → rows l ++ rows u ≡ rows d
        → start u ≡ key y → slice_get (rows u) 0 ≡ Some y → Parted R key start rows ss → Parted R key start rows (set (insert ss (at + 1) u) at l)
    split_here l u ss at d y lt e0 a p e b c h = subst (λ (n : ℕ). Parted R key start rows (set (insert ss n u) at l)) (sym (add-one at))
        (parted_split R key o start rows l u ss at d y lt (a ∙ ap start e0) (subst (λ z. R (start z) (start u) ≡ Less) e0 p) (e ∙ ap rows e0) b c h)

    pub rows_split_here : (l u : S) (ss : List S) (at : ℕ) (d : S) → at < length ss → d ≡ get_or ss at d → rows l ++ rows u ≡ rows d → rows_of rows (set (insert ss (at + 1) u) at l) ≡ rows_of rows ss
    rows_split_here l u ss at d lt e0 e = subst (λ (n : ℕ). rows_of rows (set (insert ss n u) at l) ≡ rows_of rows ss) (sym (add-one at)) (rows_split R key o start rows l u ss at d lt (e ∙ ap rows e0))

    pub split_code : (l u : S) (ss new : List S) (at : ℕ) (d e : S) (lower upper : List X) (y : X) (run : List X) (r : Ordering) (b : Bool) → at < length ss → d ≡ get_or ss at d → e ≡ get_or ss at e → start l ≡ start e
        → r ≡ R (start e) (start u) → b ≡ is_lt r → b ≡ true → rows l ≡ lower → rows u ≡ upper → lower ++ upper ≡ rows d
        → start u ≡ key y → IsRun upper 0 run → slice_get run 0 ≡ Some y → new ≡ insert ss (at + 1) u → Parted R key start rows ss → Parted R key start rows (set new at l)
    split_code l u ss new at d e lower upper y run r b lt e0 e1 a er eb et el eu join ey hr hy n p =
        let one = one_place rows ss at d e lt e0 e1 in
        let below : R (start d) (start u) ≡ Less = ap (λ z. R (start z) (start u)) (sym one) ∙ sym er ∙ less r (subst (λ z. T z) (sym et ∙ eb) tt) in
        subst (λ zs. Parted R key start rows (set zs at l)) (sym n)
        (split_here l u ss at d y lt e0 (a ∙ ap start one) below (ap (λ ys. ys ++ rows u) el ∙ ap (λ ys. lower ++ ys) eu ∙ join) ey
        (subst (λ ys. slice_get ys 0 ≡ Some y) (sym eu) (head_of_run upper run y hr hy)) p)

    pub rows_split_code : (l u : S) (ss new : List S) (at : ℕ) (d : S) (lower upper : List X) → at < length ss → d ≡ get_or ss at d → rows l ≡ lower → rows u ≡ upper → lower ++ upper ≡ rows d → new ≡ insert ss (at + 1) u → rows_of rows (set new at l) ≡ rows_of rows ss
    rows_split_code l u ss new at d lower upper lt e0 el eu join n =
        subst (λ zs. rows_of rows (set zs at l) ≡ rows_of rows ss) (sym n) (rows_split_here l u ss at d lt e0 (ap (λ ys. ys ++ rows u) el ∙ ap (λ ys. lower ++ ys) eu ∙ join))
