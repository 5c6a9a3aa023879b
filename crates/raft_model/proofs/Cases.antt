-- Two cases, and one answer.
use Rattle.std.proofs.Common.{◌≡◌, ◌⊎◌, inl, inr, Bool, true, false, Result, Ok, refl}

-- true or false
pub bool_cases : (b : Bool) → (b ≡ true) ⊎ (b ≡ false)
bool_cases true = inl refl
bool_cases false = inr refl

-- one answer
pub same_ok : {A E : Type 0} (a b : A) → let x : Result A E = Ok a in x ≡ Ok b → a ≡ b
same_ok a b h = cc
