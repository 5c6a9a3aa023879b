-- What is owed for one more line.
use Rattle.std.proofs.Common.{◌≡◌, ◌∙◌, ◌+◌, ◌<◌, ◌++◌, ◌∷◌, ℕ, List, [], String, ap, append_assoc, arith, get_or, length, map, refl, string_bytes, subst, suc, sym, take}
use Rattle.std.proofs.lemmas.List.{append-nil, length-map, length-take-le, map-append, take_more}
use Rattle.std.specs.declared.alloc.Global.{Global}
use Rattle.sim_scenario.specs.EachLine.{OfEachLine}

of_one_more_line : {X : Type 0} (Owed : ℕ → List ℕ → List X → Type 0) (k : ℕ) (lines : List (List ℕ)) (all : List X) (number : ℕ) (line : List ℕ) (own : List X)
    → OfEachLine Owed k lines all → number ≡ k + length lines → Owed number line own → OfEachLine Owed k (lines ++ line ∷ []) (all ++ own)
of_one_more_line Owed k [] all number line own are at is =
    (own, [], ap (λ xs. xs ++ own) are ∙ sym (append-nil own), subst (λ n. Owed n line own) (omega (arith, at)) is, refl)
of_one_more_line Owed k (x ∷ lines) all number line own are at is =
    (are.0, are.1 ++ own, ap (λ xs. xs ++ own) are.2 ∙ append_assoc are.0 are.1 own, are.3, of_one_more_line Owed (suc k) lines are.1 number line own are.4 (omega (arith, at)) is)

-- steps are counted from 1, and their places from 0
pub of_one_more_step : {X : Type 0} (Owed : ℕ → List ℕ → List X → Type 0) (steps : List (String Global)) (i : ℕ) (step : String Global) (all own : List X)
    → OfEachLine Owed 1 (map string_bytes (take i steps)) all → i < length steps → step ≡ get_or steps i step → Owed (i + 1) (string_bytes step) own
    → OfEachLine Owed 1 (map string_bytes (take (i + 1) steps)) (all ++ own)
of_one_more_step Owed steps i step all own are inside at is =
    let taken : take (i + 1) steps ≡ take i steps ++ step ∷ [] = take_more steps i step inside ∙ ap (λ x. take i steps ++ x ∷ []) (sym at) in
    let many : length (map string_bytes (take i steps)) ≡ i = length-map (take i steps) string_bytes ∙ length-take-le i steps (omega arith) in
    rw (taken, map-append string_bytes (take i steps) (step ∷ []))
    (of_one_more_line Owed 1 (map string_bytes (take i steps)) all (i + 1) (string_bytes step) own are (omega (arith, many)) is)
