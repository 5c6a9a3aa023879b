-- Whether two files lie apart.
use Rattle.std.proofs.Common.{◌≢◌, ◌↔◌, ◌∙◌, ℕ, List, Some, ap, refl, sym}
use Rattle.std.proofs.lemmas.Option.{same_Some}
use Rattle.sim_files.specs.Shelves.{LieApart}

-- of two places it is that they differ
pub apart : (one other : List ℕ) (P : Type 0) → (P ↔ (one ≢ other)) → P ↔ LieApart (Some one) (Some other)
apart one other P is = (λ differ path here there. is.0 differ (same_Some one path here ∙ sym (same_Some other path there)), λ lie. is.1 (λ same. lie other (ap Some same) refl))
