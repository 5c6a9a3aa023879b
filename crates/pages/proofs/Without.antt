-- Rows in order without one of them: what is looked up then, how many there are, and the list
-- without the place that the row has.
use Rattle.std.proofs.Common.{◌≡◌, ℕ, zero, suc, ◌+◌, ◌<◌, ◌≤◌, Bool, true, false, not, cond, T, List, [], ◌∷◌, length, get_or, Option, Some, None, is_some, refl, sym, ap, subst, ◌∙◌, arith, Ok, Err}
use Rattle.std.specs.Prelude.{remove, option_map}
use Rattle.std.specs.declared.cmp.Ordering.{Ordering}
use Rattle.std.specs.declared.cmp.Ordering.TheVariants.{Less, Equal, Greater}
use Rattle.std.specs.List.{AllByRecursion}
use Rattle.std.specs.Ordering.{is_eq, ordering_reverse}
use Rattle.std.specs.Cmp.{IsTotalOrder, alike_right}
use Rattle.rows.specs.Rising.{is_below, is_rising}
use Rattle.pages.specs.Rows.{row_of, has_row, without}
use Rattle.pages.specs.Positions.{PositionOf}
use Rattle.pages.proofs.RowLaws.{both, first, second, less, equal, some_none, none_below, below_tied}

nothing : {A : Type 0} (b : Bool) → ◌≡◌ {A = Option A} None (cond b None None)
nothing true = refl
nothing false = refl

hidden : {A : Type 0} (b : Bool) (x y z : A) → cond b y z ≡ cond b y (cond b x z)
hidden true x y z = refl
hidden false x y z = refl

swapped : {A : Type 0} (a b : Bool) (x y z : A) → (T a → T b → ⊥) → cond a x (cond b y z) ≡ cond b y (cond a x z)
swapped true true x y z apart = absurd (apart tt tt)
swapped true false x y z apart = refl
swapped false b x y z apart = refl

-- where a look-up found nothing there is nothing
pub none_at : {A B : Type 0} (f : A → B) (x : Option A) (y : Option B) → is_some x ≡ false → option_map f x ≡ y → y ≡ None
none_at f None y a e = sym e
none_at f (Some x) y a e = absurd cc

module _ {K X : Type 0} (R : K → K → Ordering) (key : X → K) (o : IsTotalOrder R) where
  -- ---- the rows that are left rise

  below_without : (j k : K) (ys : List X) → T (is_below R key j ys) → T (is_below R key j (without R key k ys))
  below_without j k [] h = tt
  below_without j k (y ∷ ys) h =
      elim (is_eq (R k (key y))) as (λ b. T (is_below R key j (cond (not b) (y ∷ without R key k ys) (without R key k ys)))) [
        | true ↦ below_without j k ys (second _ _ h)
        | false ↦ both _ _ (first _ _ h) (below_without j k ys (second _ _ h))
      ]

  pub rising_without : (k : K) (ys : List X) → T (is_rising R key ys) → T (is_rising R key (without R key k ys))
  rising_without k [] h = tt
  rising_without k (y ∷ ys) h =
      elim (is_eq (R k (key y))) as (λ b. T (is_rising R key (cond (not b) (y ∷ without R key k ys) (without R key k ys)))) [
        | true ↦ rising_without k ys (second _ _ h)
        | false ↦ both _ _ (below_without (key y) k ys (first _ _ h)) (rising_without k ys (second _ _ h))
      ]

  -- the row of the key is gone, and each other stays; true of every list
  pub row_of-without : (q k : K) (ys : List X) → row_of R key q (without R key k ys) ≡ cond (is_eq (R q k)) None (row_of R key q ys)
  row_of-without q k [] = nothing (is_eq (R q k))
  row_of-without q k (y ∷ ys) =
      let rest = row_of-without q k ys in
      elim (is_eq (R k (key y))) as (λ b. is_eq (R k (key y)) ≡ b →
      row_of R key q (cond (not b) (y ∷ without R key k ys) (without R key k ys)) ≡ cond (is_eq (R q k)) None (cond (is_eq (R q (key y))) (Some y) (row_of R key q ys))) [
        | true ↦ λ p. rest ∙ hidden (is_eq (R q k)) (Some y) None (row_of R key q ys)
            ∙ ap (λ r. cond (is_eq (R q k)) None (cond (is_eq r) (Some y) (row_of R key q ys))) (alike_right o k (key y) q (equal _ (subst T (sym p) tt)))
        | false ↦ λ p. ap (cond (is_eq (R q (key y))) (Some y)) rest
            ∙ swapped (is_eq (R q (key y))) (is_eq (R q k)) (Some y) None (row_of R key q ys)
            (λ a b. subst T (sym (ap is_eq (sym (o.congr q k (key y) (equal _ b)) ∙ equal _ a)) ∙ p) tt)
      ] refl

  -- rows in strictly rising key: at most one goes
  pub length-without : (k : K) (ys : List X) → length (without R key k ys) + cond (has_row R key k ys) 1 0 ≤ length ys
  length-without k [] = omega arith
  length-without k (y ∷ ys) =
      let rest : length (without R key k ys) + cond (has_row R key k ys) 1 0 ≤ length ys = length-without k ys in
      elim (is_eq (R k (key y))) as (λ b. length (cond (not b) (y ∷ without R key k ys) (without R key k ys)) + cond (is_some (cond b (Some y) (row_of R key k ys))) 1 0 ≤ suc (length ys)) [
        | true ↦ omega arith
        | false ↦ omega arith
      ]

  -- ---- places

  pub found_tied : (k : K) (ys : List X) (r : X) → row_of R key k ys ≡ Some r → R k (key r) ≡ Equal
  found_tied k [] r e = absurd cc
  found_tied k (y ∷ ys) r e =
      elim (is_eq (R k (key y))) as (λ b. is_eq (R k (key y)) ≡ b → cond b (Some y) (row_of R key k ys) ≡ Some r → R k (key r) ≡ Equal) [
        | true ↦ λ t e. let same : y ≡ r = cc in subst (λ z. R k (key z) ≡ Equal) same (equal _ (subst T (sym t) tt))
        | false ↦ λ t e. found_tied k ys r e
      ] refl e

  pub without_none : (k : K) (ys : List X) → row_of R key k ys ≡ None → without R key k ys ≡ ys
  without_none k [] e = refl
  without_none k (y ∷ ys) e =
      elim (is_eq (R k (key y))) as (λ b. cond b (Some y) (row_of R key k ys) ≡ None → cond (not b) (y ∷ without R key k ys) (without R key k ys) ≡ y ∷ ys) [
        | true ↦ λ e. absurd (some_none y e)
        | false ↦ λ e. ap (λ zs. y ∷ zs) (without_none k ys e)
      ] e

  below_at : (k : K) (ys : List X) (i : ℕ) (d : X) → T (is_below R key k ys) → i < length ys → R k (key (get_or ys i d)) ≡ Less
  below_at k [] i d h lt = absurd (omega arith)
  below_at k (y ∷ ys) zero d h lt = less _ (first _ _ h)
  below_at k (y ∷ ys) (suc i) d h lt = below_at k ys i d (second _ _ h) (omega arith)

  without_at : (k : K) (ys : List X) (at : ℕ) (d : X) → T (is_rising R key ys) → at < length ys → R k (key (get_or ys at d)) ≡ Equal → without R key k ys ≡ remove ys at
  without_at k [] at d h lt e = absurd (omega arith)
  without_at k (y ∷ ys) zero d h lt e =
      ap (λ r. cond (not (is_eq r)) (y ∷ without R key k ys) (without R key k ys)) e
      ∙ without_none k ys (none_below R key o k ys (below_tied R key o k (key y) ys e (first _ _ h)))
  without_at k (y ∷ ys) (suc at) d h lt e =
      let under : R (key y) (key (get_or ys at d)) ≡ Less = below_at (key y) ys at d (first _ _ h) (omega arith) in
      let up : R k (key y) ≡ Greater = o.congr k (key (get_or ys at d)) (key y) e ∙ o.antisymm (key (get_or ys at d)) (key y) ∙ ap ordering_reverse under in
      ap (λ r. cond (not (is_eq r)) (y ∷ without R key k ys) (without R key k ys)) up
      ∙ ap (λ zs. y ∷ zs) (without_at k ys at d (second _ _ h) (omega arith) e)

  pub cut_found : (k : K) (ys : List X) (at : ℕ) (d : X) → T (is_rising R key ys) → PositionOf R key k ys (Ok at) → without R key k ys ≡ remove ys at
  cut_found k ys at d h p = without_at k ys at d h p.0 (found_tied k ys (get_or ys at d) (p.1 d))

  pub cut_missed : (k : K) (ys : List X) (at : ℕ) → PositionOf R key k ys (Err at) → without R key k ys ≡ ys
  cut_missed k ys at p = without_none k ys p.1

  pub either_rising : (b : Bool) (xs ys : List X) → T (is_rising R key xs) → T (is_rising R key ys) → T (is_rising R key (cond b xs ys))
  either_rising true xs ys h g = h
  either_rising false xs ys h g = g

  -- what holds of each row holds of each that is left
  pub all_without : (P : X → Type 0) (k : K) (ys : List X) → AllByRecursion P ys → AllByRecursion P (without R key k ys)
  all_without P k [] h = h
  all_without P k (y ∷ ys) h =
      elim (is_eq (R k (key y))) as (λ b. AllByRecursion P (cond (not b) (y ∷ without R key k ys) (without R key k ys))) [
        | true ↦ all_without P k ys h.1
        | false ↦ (h.0, all_without P k ys h.1)
      ]
