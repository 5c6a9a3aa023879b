-- Texts that differ in a byte are not equal.
use Rattle.std.proofs.Common.{◌≡◌, ◌==◌, ℕ, List, ap, false, get_or, rules}

pub apart : {A : Type 0} {xs ys : List ℕ} (i : ℕ) → (get_or xs i 0 == get_or ys i 0) ≡ false → xs ≡ ys → A
apart i differ same =
    let equal = ap (λ zs. get_or zs i 0) same in
    absurd (search rules)
