-- Rows that are each above the last one before them are in rising key.
use Rattle.std.proofs.Common.{◌≡◌, ◌-◌, Bool, true, false, ◌&&◌, List, [], ◌∷◌, ◌++◌, length, Some, refl, ap, sym, arith, length-append}
use Rattle.std.specs.Cmp.{IsTotalOrder, first_so, second_so}
use Rattle.std.specs.Cmp.Derive.{both_true}
use Rattle.std.specs.List.{slice_get}
use Rattle.std.specs.Ordering.{is_lt}
use Rattle.std.specs.declared.cmp.Ordering.{Ordering}
use Rattle.std.specs.declared.cmp.Ordering.TheVariants.{Less, Equal, Greater}
use Rattle.rows.specs.Rising.{keeps, is_below, is_rising, is_above, is_behind}

less : (r : Ordering) → is_lt r ≡ true → r ≡ Less
less Less e = refl
less Equal e = absurd cc
less Greater e = absurd cc

-- the item at the end
at_end : {X : Type 0} (front : List X) (x : X) → slice_get (front ++ x ∷ []) (length front) ≡ Some x
at_end [] x = refl
at_end (y ∷ ys) x = at_end ys x

last_is : {X : Type 0} (front : List X) (x : X) → slice_get (front ++ x ∷ []) (length (front ++ x ∷ []) - 1) ≡ Some x
last_is front x =
    let n : length (front ++ x ∷ []) - 1 ≡ length front = omega (arith, length-append front (x ∷ [])) in
    rw n (at_end front x)

-- a test that two others imply may stand between them
between : (a b c : Bool) → (a ≡ true → c ≡ true → b ≡ true) → (a && c) ≡ ((a && b) && c)
between false b c imply = refl
between true true c imply = refl
between true false true imply = sym (imply refl refl)
between true false false imply = refl

module _ {K X : Type 0} (R : K → K → Ordering) (o : IsTotalOrder R) (key : X → K) where
  below_more : (k q : K) (xs : List X) → is_lt (R k q) ≡ true → is_below R key q xs ≡ true → is_below R key k xs ≡ true
  below_more k q [] e below = refl
  below_more k q (x ∷ xs) e below =
      let next = first_so (is_lt (R q (key x))) (is_below R key q xs) below in
      let lt : is_lt (R k (key x)) ≡ true = ap is_lt (o.trans k q (key x) (less (R k q) e) (less (R q (key x)) next)) in
      both_true lt (below_more k q xs e (second_so (is_lt (R q (key x))) (is_below R key q xs) below))

  chain : (front : List X) (y : X) (xs : List X) → keeps (λ front x. is_behind R key front (key x)) (front ++ y ∷ []) xs ≡ (is_below R key (key y) xs && is_rising R key xs)
  chain front y [] = refl
  chain front y (x ∷ xs) =
      let step : is_behind R key (front ++ y ∷ []) (key x) ≡ is_lt (R (key y) (key x)) = ap (λ last. is_above R key last (key x)) (last_is front y) in
      let more = chain (front ++ y ∷ []) x xs in
      rw (step, more) (between (is_lt (R (key y) (key x))) (is_below R key (key y) xs) (is_below R key (key x) xs && is_rising R key xs)
      (λ lt rest. below_more (key y) (key x) xs lt (first_so (is_below R key (key x) xs) (is_rising R key xs) rest)))

  pub keeps_rising : (xs : List X) → keeps (λ front x. is_behind R key front (key x)) [] xs ≡ is_rising R key xs
  keeps_rising [] = refl
  keeps_rising (x ∷ xs) = chain [] x xs
