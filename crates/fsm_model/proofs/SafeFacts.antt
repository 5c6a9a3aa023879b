-- The test of a safe state decides the facts.
use Rattle.std.proofs.Common.{Bool, true, false, not, ◌&&◌, ◌||◌, T, List, [], ◌∷◌, is_some}
use Rattle.std.specs.List.{AllByRecursion, list_all, list_any}
use Rattle.fsm_tables.proofs.RowLaws.{both, first, second}
use Rattle.fsm_model.specs.Words.{State, node_of}
use Rattle.rows.proofs.SizeLaws.{fits_of, of_fits}
use Rattle.fsm_tables.specs.Claims.{Claim, claims, used}
use Rattle.fsm_model.specs.Safe.{is_within, is_placed, same_name, are_distinct, is_safe}
use Rattle.fsm_model.specs.SafeFacts.{Within, Apart, AllApart, Safe}

neither : (a b : Bool) → T (not (a || b)) → (T a → ⊥) × T (not b)
neither true b h = absurd h
neither false b h = (λ t. t, h)

none_of : (a b : Bool) → (T a → ⊥) → T (not b) → T (not (a || b))
none_of true b p q = p tt
none_of false b p q = q

module _ {A : Type 0} (p : A → Bool) (P : A → Type 0) where
  all_hold : ((x : A) → T (p x) → P x) → (xs : List A) → T (list_all p xs) → AllByRecursion P xs
  all_hold f [] h = tt
  all_hold f (x ∷ xs) h = (f x (first _ _ h), all_hold f xs (second _ _ h))

  all_pass : ((x : A) → P x → T (p x)) → (xs : List A) → AllByRecursion P xs → T (list_all p xs)
  all_pass f [] h = tt
  all_pass f (x ∷ xs) h = both _ _ (f x h.0) (all_pass f xs h.1)

  none_hold : ((x : A) → (T (p x) → ⊥) → P x) → (xs : List A) → T (not (list_any p xs)) → AllByRecursion P xs
  none_hold f [] h = tt
  none_hold f (x ∷ xs) h = let n = neither (p x) (list_any p xs) h in (f x n.0, none_hold f xs n.1)

  none_pass : ((x : A) → P x → T (p x) → ⊥) → (xs : List A) → AllByRecursion P xs → T (not (list_any p xs))
  none_pass f [] h = tt
  none_pass f (x ∷ xs) h = none_of (p x) (list_any p xs) (f x h.0) (none_pass f xs h.1)

distinct_apart : (cs : List Claim) → T (are_distinct cs) → AllApart cs
distinct_apart [] h = tt
distinct_apart (c ∷ cs) h = (none_hold (same_name c) (Apart c) (λ d n. n) cs (first _ _ h), distinct_apart cs (second _ _ h))

apart_distinct : (cs : List Claim) → AllApart cs → T (are_distinct cs)
apart_distinct [] h = tt
apart_distinct (c ∷ cs) h = both _ _ (none_pass (same_name c) (Apart c) (λ d n. n) cs h.0) (apart_distinct cs h.1)

pub safe_by_test : (s : State) → T (is_safe s) → Safe s
safe_by_test s h =
    let cs = claims s.allocs in
    let front : T (list_all (is_within cs) s.nodes && list_all (is_placed s.nodes) cs) = first (list_all (is_within cs) s.nodes && list_all (is_placed s.nodes) cs) (are_distinct cs) h in
    record {
      within = all_hold (is_within cs) (Within cs) (λ n w. of_fits (used n.number cs) n.size w) s.nodes (first (list_all (is_within cs) s.nodes) (list_all (is_placed s.nodes) cs) front);
      placed = all_hold (is_placed s.nodes) (λ c. T (is_some (node_of c.node s))) (λ c p. p) cs (second (list_all (is_within cs) s.nodes) (list_all (is_placed s.nodes) cs) front);
      apart = distinct_apart cs (second (list_all (is_within cs) s.nodes && list_all (is_placed s.nodes) cs) (are_distinct cs) h);
    }

pub test_by_safe : (s : State) → Safe s → T (is_safe s)
test_by_safe s h =
    let cs = claims s.allocs in
    both _ _ (both _ _
    (all_pass (is_within cs) (Within cs) (λ n w. fits_of (used n.number cs) n.size w) s.nodes h.within)
    (all_pass (is_placed s.nodes) (λ c. T (is_some (node_of c.node s))) (λ c p. p) cs h.placed))
    (apart_distinct cs h.apart)
