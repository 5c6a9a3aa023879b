-- What was done, and more that is done.
use Rattle.std.proofs.Common.{get_or, ◌<◌, Result, Ok, Err, OnErr, ◌≡◌, ◌∙◌, inl, inr, ℕ, zero, suc, ◌++◌, ◌∷◌, [], List, Option, Some, None, length, take, drop, ap, sym, refl, subst, append_assoc, append-nil, arith, map}
use Rattle.std.specs.Prelude.{slice_get}
use Rattle.journal.specs.Events.{IoEvent}
use Rattle.journal.specs.Histories.{GoesOnBy, MayGoOnBy, GoesOnByFirst}

pub goes_on_nil : (a : Option (List IoEvent)) → GoesOnBy a a []
goes_on_nil None = tt
goes_on_nil (Some done) = sym (append-nil done)

pub goes_on_more : (a b c : Option (List IoEvent)) (xs ys : List IoEvent) → GoesOnBy a b xs → GoesOnBy b c ys → GoesOnBy a c (xs ++ ys)
goes_on_more None b c xs ys first second = tt
goes_on_more (Some x) None c xs ys first second = absurd first
goes_on_more (Some x) (Some y) None xs ys first second = absurd second
goes_on_more (Some x) (Some y) (Some z) xs ys first second = second ∙ ap (λ l. l ++ ys) first ∙ append_assoc x xs ys

pub begins_none : (a b : Option (List IoEvent)) (events : List IoEvent) → GoesOnBy a b [] → GoesOnByFirst a b events
begins_none a b events none = record { first = []; others = events; all = refl; happened = none }

pub begins_all : (a b : Option (List IoEvent)) (events : List IoEvent) → GoesOnBy a b events → GoesOnByFirst a b events
begins_all a b events all = record { first = events; others = []; all = sym (append-nil events); happened = all }

pub begins_more : (a b c : Option (List IoEvent)) (xs ys : List IoEvent) → GoesOnBy a b xs → GoesOnByFirst b c ys → GoesOnByFirst a c (xs ++ ys)
begins_more a b c xs ys first next =
    record { first = xs ++ next.first; others = next.others; all = ap (λ l. xs ++ l) next.all ∙ sym (append_assoc xs next.first next.others); happened = goes_on_more a b c xs next.first first next.happened }

pub begins_longer : (a b : Option (List IoEvent)) (xs ys : List IoEvent) → GoesOnByFirst a b xs → GoesOnByFirst a b (xs ++ ys)
begins_longer a b xs ys begun =
    record { first = begun.first; others = begun.others ++ ys; all = ap (λ l. l ++ ys) begun.all ∙ append_assoc begun.first begun.others ys; happened = begun.happened }

pub may_begin : (a b : Option (List IoEvent)) (event : IoEvent) (events : List IoEvent) → MayGoOnBy a b event → GoesOnByFirst a b (event ∷ events)
may_begin a b event events (inl none) = begins_none a b (event ∷ events) none
may_begin a b event events (inr one) = record { first = event ∷ []; others = events; all = refl; happened = one }

-- ---- one after the other

module _ {X : Type 0} (event : X → IoEvent) where
  next_of : (xs : List X) (i : ℕ) (x : X) → slice_get xs i ≡ Some x → map event (take (suc i) xs) ≡ map event (take i xs) ++ event x ∷ []
  next_of [] i x at = let none : None ≡ Some x = at in absurd (cc none)
  next_of (y ∷ ys) zero x at = let some : Some y ≡ Some x = at in let same : y ≡ x = cc some in ap (λ z. event z ∷ []) same
  next_of (y ∷ ys) (suc i) x at = ap (λ l. event y ∷ l) (next_of ys i x at)

  split_at : (xs : List X) (i : ℕ) (x : X) → slice_get xs i ≡ Some x → map event xs ≡ map event (take i xs) ++ event x ∷ map event (drop (suc i) xs)
  split_at [] i x at = let none : None ≡ Some x = at in absurd (cc none)
  split_at (y ∷ ys) zero x at = let some : Some y ≡ Some x = at in let same : y ≡ x = cc some in ap (λ z. event z ∷ map event ys) same
  split_at (y ∷ ys) (suc i) x at = ap (λ l. event y ∷ l) (split_at ys i x at)

  module _ (xs : List X) (i : ℕ) (x : X) (a b c : Option (List IoEvent)) (at : slice_get xs i ≡ Some x) (before : GoesOnBy a b (map event (take i xs))) where
    pub done_part : MayGoOnBy b c (event x) → GoesOnByFirst a c (map event xs)
    done_part one =
        let behind = map event (drop (suc i) xs) in
        subst (GoesOnByFirst a c) (sym (split_at xs i x at)) (begins_more a b c (map event (take i xs)) (event x ∷ behind) before (may_begin b c (event x) behind one))

-- ---- results

-- it holds whatever the call answered
pub err_any : {T E : Type 0} (r : Result T E) {P : Type 0} → P → OnErr r P
err_any (Ok x) p = tt
err_any (Err e) p = p

at_index : {X : Type 0} (xs : List X) (i : ℕ) (x : X) → i < length xs → x ≡ get_or xs i x → slice_get xs i ≡ Some x
at_index [] i x lt is = absurd (omega (arith, lt))
at_index (y ∷ ys) zero x lt is = ap (λ z. Some z) (sym is)
at_index (y ∷ ys) (suc i) x lt is = at_index ys i x (omega (arith, lt)) is

pub part_done : {X : Type 0} (event : X → IoEvent) (xs : List X) (i : ℕ) (x : X) (a b c : Option (List IoEvent)) → i < length xs → x ≡ get_or xs i x
    → GoesOnBy a b (map event (take i xs)) → MayGoOnBy b c (event x) → GoesOnByFirst a c (map event xs)
part_done event xs i x a b c lt is before one = done_part event xs i x a b c (at_index xs i x lt is) before one
