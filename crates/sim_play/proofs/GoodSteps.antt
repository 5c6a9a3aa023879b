-- Scenarios whose steps are all steps.
use Rattle.std.proofs.Common.{◌≡◌, ◌∙◌, ◌+◌, ◌<◌, ◌≤◌, ◌++◌, ◌∷◌, ℕ, List, [], String, ap, arith, get_or, length, map, string_bytes, subst, sym, take}
use Rattle.std.specs.List.{All}
use Rattle.std.specs.declared.alloc.Global.{Global}
use Rattle.std.proofs.lemmas.List.{get_or-map, length-map, map-append, take_all, take_more}
use Rattle.std.proofs.lemmas.List.Elements.{All-append, All-cons, All-nil}
use Rattle.sim_scenario.specs.Complaints.{IsStepLine}

pub good_at : (steps : List (String Global)) (i : ℕ) (step : String Global) → All IsStepLine (map string_bytes steps) → i < length steps → step ≡ get_or steps i step → IsStepLine (string_bytes step)
good_at steps i step good inside at =
    subst IsStepLine (get_or-map string_bytes steps i step (string_bytes step) inside ∙ ap string_bytes (sym at)) (good i (string_bytes step) (omega (arith, length-map steps string_bytes)))

pub one_more_good : (steps : List (String Global)) (i : ℕ) (step : String Global) → All IsStepLine (map string_bytes (take i steps)) → i < length steps → step ≡ get_or steps i step → IsStepLine (string_bytes step)
    → All IsStepLine (map string_bytes (take (i + 1) steps))
one_more_good steps i step good inside at is =
    let taken : take (i + 1) steps ≡ take i steps ++ step ∷ [] = take_more steps i step inside ∙ ap (λ x. take i steps ++ x ∷ []) (sym at) in
    rw (taken, map-append string_bytes (take i steps) (step ∷ []))
    (All-append IsStepLine (map string_bytes (take i steps)) (string_bytes step ∷ []) good (All-cons IsStepLine (string_bytes step) [] is (All-nil IsStepLine)))

pub all_good : (steps : List (String Global)) (i : ℕ) → All IsStepLine (map string_bytes (take i steps)) → length steps ≤ i → All IsStepLine (map string_bytes steps)
all_good steps i good most = subst (λ ss. All IsStepLine (map string_bytes ss)) (take_all i steps most) good
