-- Names that are held once among all claims keep claims distinct.
use Rattle.std.proofs.Common.{◌≡◌, ℕ, ◌+◌, ◌≤◌, true, false, cond, ◌||◌, T, List, [], ◌∷◌, ◌++◌, length, filter, refl, sym, subst, ◌∙◌, arith}
use Rattle.std.specs.Prelude.{nat_eq}
use Rattle.std.specs.List.{list_all, list_any}
use Rattle.std.proofs.lemmas.List.Sums.{length-filter, sum_by-append, sum_by-cons}
use Rattle.fsm_tables.specs.Claims.{Claim}
use Rattle.fsm_tables.proofs.RowLaws.{first, second}
use Rattle.fsm_model.specs.Safe.{same_name, are_distinct}
use Rattle.fsm_model.proofs.NameLaws.{named, join, count_distinct, distinct_count}
use Rattle.fsm_model.proofs.Lists.{same_truth}
use Rattle.group_model.specs.Acceptance.{is_held_once}
use Rattle.fsm_state.proofs.Alone.{turned_name}

-- claims of one name are of one name with the same claims
alike : (q d : Claim) → T (same_name q d) → (c : Claim) → same_name q c ≡ same_name d c
alike q d h c = same_truth (same_name q c) (same_name d c) (λ g. join q d c h g) (λ g. join d q c (turned_name q d h) g)

number_of : (a b : ℕ) → T (nat_eq a b) → a ≡ b
number_of a b h = grind arith

-- a name of one that is held once is held once
once_named : (q : Claim) (all ds : List Claim) → T (list_any (same_name q) ds) → T (list_all (is_held_once all) ds) → named q all ≤ 1
once_named q all [] h g = absurd h
once_named q all (d ∷ ds) h g =
    elim (same_name q d) as (λ b. same_name q d ≡ b → T (b || list_any (same_name q) ds) → named q all ≤ 1) [
      | true ↦ λ e h.
          let counted : length (filter (same_name q) all) ≡ named q all = length-filter (same_name q) all in
          let same : length (filter (same_name q) all) ≡ length (filter (same_name d) all) = λ i. length (filter (λ c. alike q d (subst T (sym e) tt) c i) all) in
          let one : length (filter (same_name d) all) ≡ 1 = number_of (length (filter (same_name d) all)) 1 (first (is_held_once all d) (list_all (is_held_once all) ds) g) in
          omega (arith, counted, same, one)
      | false ↦ λ e h. once_named q all ds h (second (is_held_once all d) (list_all (is_held_once all) ds) g)
    ] refl h

none_named : (q : Claim) (ds : List Claim) → list_any (same_name q) ds ≡ false → named q ds ≡ 0
none_named q [] e = refl
none_named q (d ∷ ds) e =
    sum_by-cons (λ c. cond (same_name q c) 1 0) d ds
    ∙ elim (same_name q d) as (λ b. (b || list_any (same_name q) ds) ≡ false → cond b 1 0 + named q ds ≡ 0) [
      | true ↦ λ e. absurd cc
      | false ↦ λ e. let rest : named q ds ≡ 0 = none_named q ds e in omega (arith, rest)
    ] e

pub once_is_distinct : (cs ds : List Claim) → T (are_distinct cs) → T (list_all (is_held_once (cs ++ ds)) ds) → T (are_distinct (cs ++ ds))
once_is_distinct cs ds h g = distinct_count (cs ++ ds) (λ q.
    elim (list_any (same_name q) ds) as (λ b. list_any (same_name q) ds ≡ b → named q (cs ++ ds) ≤ 1) [
      | true ↦ λ e. once_named q (cs ++ ds) ds (subst T (sym e) tt) g
      | false ↦ λ e.
          let both = sum_by-append (λ c. cond (same_name q c) 1 0) cs ds in
          let none : named q ds ≡ 0 = none_named q ds e in
          let most : named q cs ≤ 1 = count_distinct cs h q in
          omega (arith, both, none, most)
    ] refl)
