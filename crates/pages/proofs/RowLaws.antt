-- What a put leaves: the look-ups, the order, and the number of rows.
use Rattle.std.proofs.Common.{◌≡◌, ℕ, suc, ◌+◌, ◌<◌, ◌≤◌, Bool, true, false, cond, ◌&&◌, List, [], ◌∷◌, length, map, Option, Some, None, is_some, refl, sym, ap, subst, ◌∙◌, arith, T}
use Rattle.std.specs.Prelude.{nat_lt, ◌||◌}
use Rattle.std.specs.declared.cmp.Ordering.{Ordering}
use Rattle.std.specs.declared.cmp.Ordering.TheVariants.{Less, Equal, Greater}
use Rattle.std.specs.List.{AllByRecursion}
use Rattle.std.specs.Ordering.{is_lt, is_eq, ordering_reverse}
use Rattle.std.specs.Cmp.{IsTotalOrder, alike_right}
use Rattle.rows.specs.Rising.{is_below, is_rising}
use Rattle.pages.specs.Rows.{by_order, row_of, has_row, put, put_within}

pub both : (a b : Bool) → T a → T b → T (a && b)
both true b p q = q
both false b p q = p

pub first : (a b : Bool) → T (a && b) → T a
first true b p = tt
first false b p = p

pub second : (a b : Bool) → T (a && b) → T b
second true b p = p
second false b p = absurd p

pub less : (r : Ordering) → T (is_lt r) → r ≡ Less
less Less p = refl
less Equal p = absurd p
less Greater p = absurd p

pub equal : (r : Ordering) → T (is_eq r) → r ≡ Equal
equal Less p = absurd p
equal Equal p = refl
equal Greater p = absurd p

pub some_none : {A : Type 0} (x : A) → Some x ≡ None → ⊥
some_none x e = cc

pub some_same : {A : Type 0} (x y : A) → Some x ≡ Some y → x ≡ y
some_same x y e = cc

shadowed : {A : Type 0} (b : Bool) (x y z : A) → cond b x z ≡ cond b x (cond b y z)
shadowed true x y z = refl
shadowed false x y z = refl

swapped : {A : Type 0} (a b : Bool) (x y z : A) → (T a → T b → ⊥) → cond a x (cond b y z) ≡ cond b y (cond a x z)
swapped true true x y z apart = absurd (apart tt tt)
swapped true false x y z apart = refl
swapped false b x y z apart = refl

module _ {K X : Type 0} (R : K → K → Ordering) (key : X → K) where
  -- a change of rows that keeps their keys
  pub below_mapped : (f : X → X) → ((x : X) → key (f x) ≡ key x) → (k : K) (ys : List X) → T (is_below R key k ys) → T (is_below R key k (map f ys))
  below_mapped f keeps k [] h = tt
  below_mapped f keeps k (y ∷ ys) h = both _ _ (subst (λ q. T (is_lt (R k q))) (sym (keeps y)) (first _ _ h)) (below_mapped f keeps k ys (second _ _ h))

  pub rising_mapped : (f : X → X) → ((x : X) → key (f x) ≡ key x) → (ys : List X) → T (is_rising R key ys) → T (is_rising R key (map f ys))
  rising_mapped f keeps [] h = tt
  rising_mapped f keeps (y ∷ ys) h = both _ _
      (subst (λ q. T (is_below R key q (map f ys))) (sym (keeps y)) (below_mapped f keeps (key y) ys (first _ _ h)))
      (rising_mapped f keeps ys (second _ _ h))

  -- where there is room, the limit is nothing
  pub within_room : (most : ℕ) (x : X) (ys : List X) → T (has_row R key (key x) ys || nat_lt (length ys) most) → put_within R key most x ys ≡ put R key x ys
  within_room most x ys room = elim (has_row R key (key x) ys || nat_lt (length ys) most) as (λ b. T b → cond b (put R key x ys) ys ≡ put R key x ys) [ true ↦ λ _. refl | false ↦ λ h. absurd h ] room

  module _ (o : IsTotalOrder R) where
    pub below_less : (j k : K) (ys : List X) → R j k ≡ Less → T (is_below R key k ys) → T (is_below R key j ys)
    below_less j k [] p h = tt
    below_less j k (y ∷ ys) p h = both _ _ (subst (λ r. T (is_lt r)) (sym (o.trans j k (key y) p (less _ (first _ _ h)))) tt) (below_less j k ys p (second _ _ h))

    pub below_tied : (j k : K) (ys : List X) → R j k ≡ Equal → T (is_below R key k ys) → T (is_below R key j ys)
    below_tied j k [] p h = tt
    below_tied j k (y ∷ ys) p h = both _ _ (subst (λ r. T (is_lt r)) (sym (o.congr j k (key y) p)) (first _ _ h)) (below_tied j k ys p (second _ _ h))

    pub none_below : (k : K) (ys : List X) → T (is_below R key k ys) → row_of R key k ys ≡ None
    none_below k [] h = refl
    none_below k (y ∷ ys) h = ap (λ r. cond (is_eq r) (Some y) (row_of R key k ys)) (less _ (first _ _ h)) ∙ none_below k ys (second _ _ h)

    -- the row put is there, and each other stays; true of every list
    pub row_of-put : (q : K) (x : X) (ys : List X) → row_of R key q (put R key x ys) ≡ cond (is_eq (R q (key x))) (Some x) (row_of R key q ys)
    row_of-put q x [] = refl
    row_of-put q x (y ∷ ys) =
        elim (R (key x) (key y)) as (λ r. R (key x) (key y) ≡ r → row_of R key q (by_order r (x ∷ y ∷ ys) (x ∷ ys) (y ∷ put R key x ys)) ≡ cond (is_eq (R q (key x))) (Some x) (row_of R key q (y ∷ ys))) [
          | Less ↦ λ p. refl
          | Equal ↦ λ p. shadowed (is_eq (R q (key x))) (Some x) (Some y) (row_of R key q ys) ∙ ap (λ r. cond (is_eq (R q (key x))) (Some x) (cond (is_eq r) (Some y) (row_of R key q ys))) (alike_right o (key x) (key y) q p)
          | Greater ↦ λ p. ap (cond (is_eq (R q (key y))) (Some y)) (row_of-put q x ys)
              ∙ swapped _ _ _ _ _ (λ a b. subst (λ r. T (is_eq r)) (sym (sym (o.congr q (key x) (key y) (equal _ b)) ∙ equal _ a) ∙ p) tt)
        ] refl

    below_put : (k : K) (x : X) (ys : List X) → T (is_lt (R k (key x))) → T (is_below R key k ys) → T (is_below R key k (put R key x ys))
    below_put k x [] p h = both _ _ p tt
    below_put k x (y ∷ ys) p h =
        elim (R (key x) (key y)) as (λ r. T (is_below R key k (by_order r (x ∷ y ∷ ys) (x ∷ ys) (y ∷ put R key x ys)))) [
          | Less ↦ both _ _ p h
          | Equal ↦ both _ _ p (second _ _ h)
          | Greater ↦ both _ _ (first _ _ h) (below_put k x ys p (second _ _ h))
        ]

    pub rising_put : (x : X) (ys : List X) → T (is_rising R key ys) → T (is_rising R key (put R key x ys))
    rising_put x [] h = tt
    rising_put x (y ∷ ys) h =
        elim (R (key x) (key y)) as (λ r. R (key x) (key y) ≡ r → T (is_rising R key (by_order r (x ∷ y ∷ ys) (x ∷ ys) (y ∷ put R key x ys)))) [
          | Less ↦ λ p. both _ _ (both _ _ (subst (λ r. T (is_lt r)) (sym p) tt) (below_less (key x) (key y) ys p (first _ _ h))) h
          | Equal ↦ λ p. both _ _ (below_tied (key x) (key y) ys p (first _ _ h)) (second _ _ h)
          | Greater ↦ λ p. both _ _ (below_put (key y) x ys (subst (λ r. T (is_lt r)) (sym (o.antisymm (key y) (key x) ∙ ap ordering_reverse p)) tt) (first _ _ h)) (rising_put x ys (second _ _ h))
        ] refl

    pub length-put : (x : X) (ys : List X) → T (is_rising R key ys) → length (put R key x ys) ≡ cond (has_row R key (key x) ys) (length ys) (length ys + 1)
    length-put x [] h = refl
    length-put x (y ∷ ys) h =
        elim (R (key x) (key y)) as (λ r. R (key x) (key y) ≡ r → length (by_order r (x ∷ y ∷ ys) (x ∷ ys) (y ∷ put R key x ys)) ≡ cond (is_some (cond (is_eq r) (Some y) (row_of R key (key x) ys))) (suc (length ys)) (suc (length ys) + 1)) [
          | Less ↦ λ p. subst (λ (z : Option X). suc (suc (length ys)) ≡ cond (is_some z) (suc (length ys)) (suc (length ys) + 1)) (sym (none_below (key x) ys (below_less (key x) (key y) ys p (first _ _ h)))) (omega arith)
          | Equal ↦ λ p. refl
          | Greater ↦ λ p. ap suc (length-put x ys (second _ _ h))
              ∙ elim (has_row R key (key x) ys) as (λ b. suc (cond b (length ys) (length ys + 1)) ≡ cond b (suc (length ys)) (suc (length ys) + 1)) [ true ↦ refl | false ↦ omega arith ]
        ] refl

    pub rising_put_within : (most : ℕ) (x : X) (ys : List X) → T (is_rising R key ys) → T (is_rising R key (put_within R key most x ys))
    rising_put_within most x ys h = elim (has_row R key (key x) ys || nat_lt (length ys) most) as (λ b. T (is_rising R key (cond b (put R key x ys) ys))) [ true ↦ rising_put x ys h | false ↦ h ]

    length_bound : (known room : Bool) (n most : ℕ) → n ≤ most → (T room → n < most) → cond (known || room) (cond known n (n + 1)) n ≤ most
    length_bound true room n most le lt = le
    length_bound false true n most le lt = let below = lt tt in omega arith
    length_bound false false n most le lt = le

    below_most : (n most : ℕ) → T (nat_lt n most) → n < most
    below_most n most h = grind arith

    at_length : (b : Bool) (xs ys : List X) → length (cond b xs ys) ≡ cond b (length xs) (length ys)
    at_length true xs ys = refl
    at_length false xs ys = refl

    -- a table never passes its limit
    pub few_put_within : (most : ℕ) (x : X) (ys : List X) → T (is_rising R key ys) → length ys ≤ most → length (put_within R key most x ys) ≤ most
    few_put_within most x ys h le =
        let bound = length_bound (has_row R key (key x) ys) (nat_lt (length ys) most) (length ys) most le (below_most (length ys) most) in
        subst (λ (n : ℕ). n ≤ most) (sym (at_length (has_row R key (key x) ys || nat_lt (length ys) most) (put R key x ys) ys ∙ ap (λ (n : ℕ). cond (has_row R key (key x) ys || nat_lt (length ys) most) n (length ys)) (length-put x ys h))) bound

    -- nor where there was room for the row
    pub few_put : (most : ℕ) (x : X) (ys : List X) → T (is_rising R key ys) → T (has_row R key (key x) ys || nat_lt (length ys) most) → length ys ≤ most → length (put R key x ys) ≤ most
    few_put most x ys h room le =
        let all : length (put_within R key most x ys) ≤ most = few_put_within most x ys h le in
        subst (λ (n : ℕ). n ≤ most) (ap length (within_room most x ys room)) all

  -- what holds of each row and of the row put holds of each row then
  pub all_put : (P : X → Type 0) (x : X) (ys : List X) → P x → AllByRecursion P ys → AllByRecursion P (put R key x ys)
  all_put P x [] p h = (p, tt)
  all_put P x (y ∷ ys) p h =
      elim (R (key x) (key y)) as (λ r. AllByRecursion P (by_order r (x ∷ y ∷ ys) (x ∷ ys) (y ∷ put R key x ys))) [
        | Less ↦ (p, h)
        | Equal ↦ (p, h.1)
        | Greater ↦ (h.0, all_put P x ys p h.1)
      ]
