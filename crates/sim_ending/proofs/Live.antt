-- The live ones of a list.
use Rattle.std.proofs.Common.{◌≡◌, ◌≢◌, Bool, true, List, [], ◌∷◌, ◌++◌, length, filter, arith, ap, sym, ◌∙◌, cond, length-append}

some_in : {X : Type 0} (done rest : List X) (x : X) → done ++ x ∷ rest ≡ [] → ⊥
some_in done rest x e = let n = ap length e in let m = length-append done (x ∷ rest) in absurd (omega (arith, n, m))

-- where one of those that are left is live, some are
pub some_live : {X : Type 0} (p : X → Bool) (done left rest all : List X) (x : X) → done ++ filter p left ≡ filter p all → left ≡ x ∷ rest → p x ≡ true → filter p all ≢ []
some_live p done left rest all x e l is none =
    some_in done (filter p rest) x (ap (λ b. done ++ cond b (x ∷ filter p rest) (filter p rest)) (sym is) ∙ sym (ap (λ xs. done ++ filter p xs) l) ∙ e ∙ none)
