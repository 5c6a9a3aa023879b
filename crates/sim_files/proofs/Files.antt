-- The bytes of a file that was read.
use Rattle.std.proofs.Common.{◌≡◌, ℕ, List, Option, IfSome, subst}
use Rattle.std.proofs.lemmas.Option.{IfSome_then}

-- what holds of the bytes that were read holds of those of the file, where they are known
pub of_file : (P : List ℕ → Type 0) (file : Option (List ℕ)) (bytes : List ℕ) → IfSome file (λ known. bytes ≡ known) → P bytes → IfSome file P
of_file P file bytes read is = IfSome_then file read (λ known same. subst P same is)
