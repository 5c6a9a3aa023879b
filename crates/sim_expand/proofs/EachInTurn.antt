-- What comes of each of a list, one by one.
use Rattle.std.proofs.Common.{◌≡◌, ◌∙◌, ◌<◌, ◌++◌, ◌∷◌, ℕ, zero, suc, List, [], ap, ap₂, append_assoc, arith, get_or, length, refl, subst, sym, take}
use Rattle.std.proofs.lemmas.List.{append-nil}
use Rattle.sim_expand.specs.EachInTurn.{OfEach, OfEachBehind}

module _ {A B : Type 0} (One : A → List B → Type 0) where
  pub of_one_more : (xs : List A) (x : A) (all own : List B) → OfEach One xs all → One x own → OfEach One (xs ++ x ∷ []) (all ++ own)
  of_one_more [] x all own are is = (own, [], ap (λ s. s ++ own) are ∙ sym (append-nil own), is, refl)
  of_one_more (y ∷ xs) x all own are is =
      (are.0, are.1 ++ own, ap (λ s. s ++ own) are.2 ∙ append_assoc are.0 are.1 own, are.3, of_one_more xs x are.1 own are.4 is)

  -- something comes of each
  pub of_one : (xs : List A) (i : ℕ) (x : A) (all : List B) → OfEach One xs all → i < length xs → get_or xs i x ≡ x → (own : List B) × One x own
  of_one [] i x all are lt at = absurd (omega arith)
  of_one (y ∷ xs) zero x all are lt at = (are.0, rw (← at) are.3)
  of_one (y ∷ xs) (suc i) x all are lt at = of_one xs i x are.1 are.4 (omega arith) at

  module _ (once : (x : A) (a b : List B) → One x a → One x b → a ≡ b) where
    -- where but one thing comes of each, but one comes of all
    pub same_of_each : (xs : List A) (a b : List B) → OfEach One xs a → OfEach One xs b → a ≡ b
    same_of_each [] a b is too = is ∙ sym too
    same_of_each (x ∷ xs) a b is too =
        is.2 ∙ ap₂ (λ s t. s ++ t) (once x is.0 too.0 is.3 too.3) (same_of_each xs is.1 too.1 is.4 too.4) ∙ sym too.2

    -- and what comes of all begins with what comes of the first ones and the next
    pub begins_of_each : (xs : List A) (i : ℕ) (x : A) (front own all : List B) → OfEach One (take i xs) front → One x own → OfEach One xs all → i < length xs → get_or xs i x ≡ x
        → (rest : List B) × (all ≡ (front ++ own) ++ rest)
    begins_of_each [] i x front own all first is are lt at = absurd (omega arith)
    begins_of_each (y ∷ xs) zero x front own all first is are lt at =
        let same : are.0 ≡ own = once x are.0 own (rw (← at) are.3) is in
        (are.1, are.2 ∙ ap₂ (λ s t. (s ++ t) ++ are.1) (sym first) same)
    begins_of_each (y ∷ xs) (suc i) x front own all first is are lt at =
        let same : first.0 ≡ are.0 = once y first.0 are.0 first.3 are.3 in
        let rest = begins_of_each xs i x first.1 own are.1 first.4 is are.4 (omega arith) at in
        let whole : are.0 ++ are.1 ≡ first.0 ++ ((first.1 ++ own) ++ rest.0) = ap₂ (λ s t. s ++ t) (sym same) rest.1 in
        let parts : first.0 ++ ((first.1 ++ own) ++ rest.0) ≡ ((first.0 ++ first.1) ++ own) ++ rest.0 =
        sym (append_assoc first.0 (first.1 ++ own) rest.0) ∙ ap (λ s. s ++ rest.0) (sym (append_assoc first.0 first.1 own)) in
        (rest.0, are.2 ∙ whole ∙ parts ∙ ap (λ s. (s ++ own) ++ rest.0) (sym first.2))

-- one more, which rests on all that came before
pub of_one_more_behind : {A B : Type 0} (One : List A → List B → A → List B → Type 0) (passed : List A) (before : List B) (xs : List A) (x : A) (all own : List B)
    → OfEachBehind One passed before xs all → One (passed ++ xs) (before ++ all) x own → OfEachBehind One passed before (xs ++ x ∷ []) (all ++ own)
of_one_more_behind One passed before [] x all own none is =
    let is = subst (λ s. One (passed ++ []) s x own) (ap (λ s. before ++ s) none ∙ append-nil before) is in
    (own, [], ap (λ s. s ++ own) none ∙ sym (append-nil own), subst (λ s. One s before x own) (append-nil passed) is, refl)
of_one_more_behind One passed before (y ∷ xs) x all own are is =
    let front : passed ++ y ∷ xs ≡ (passed ++ y ∷ []) ++ xs = sym (append_assoc passed (y ∷ []) xs) in
    let behind : before ++ all ≡ (before ++ are.0) ++ are.1 = ap (λ s. before ++ s) are.2 ∙ sym (append_assoc before are.0 are.1) in
    let is = subst (λ s. One (passed ++ y ∷ xs) s x own) behind is in (
      are.0,
      are.1 ++ own,
      ap (λ s. s ++ own) are.2 ∙ append_assoc are.0 are.1 own,
      are.3,
      of_one_more_behind One (passed ++ y ∷ []) (before ++ are.0) xs x are.1 own are.4 (subst (λ s. One s ((before ++ are.0) ++ are.1) x own) front is),
    )
