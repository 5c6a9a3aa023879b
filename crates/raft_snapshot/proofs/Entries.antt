-- Logs, as the code reads them.
use Rattle.std.proofs.Common.{◌≡◌, ◌≢◌, ℕ, zero, suc, ◌-◌, true, false, ltb, Option, Some, None, List, [], ◌∷◌, length, get_or, refl, slice_get, sym, ap, ◌∙◌, arith}
use Rattle.std.proofs.lemmas.Bool.{ltb-true, ltb-false}
use Rattle.std.proofs.lemmas.Option.{slice_get_read, slice_get_past}
use Rattle.machine_model.specs.declared.entry.Entry.{Entry}
use Rattle.raft_model.specs.Logs.{term_at}

abbrev pub term_in : {C : Type 0} → Option (Entry C) → ℕ
term_in None = 0
term_in (Some e) = e.term

term_at-suc : {C : Type 0} (log : List (Entry C)) (p : ℕ) → term_at log (suc p) ≡ term_in (slice_get log p)
unfolding term_at
term_at-suc [] p = refl
term_at-suc (e ∷ log) zero = refl
term_at-suc (e ∷ log) (suc p) = term_at-suc log p

term_at-read : {C : Type 0} (log : List (Entry C)) (p : ℕ) (e : Option (Entry C)) → p ≢ 0 → slice_get log (p - 1) ≡ e → term_at log p ≡ term_in e
term_at-read log p e pos is = let q : p ≡ suc (p - 1) = omega arith in ap (term_at log) q ∙ term_at-suc log (p - 1) ∙ ap term_in is

pub term_there : {C : Type 0} (log : List (Entry C)) (p : ℕ) (e : Entry C) → p ≢ 0 → true ≡ ltb (p - 1) (length log) → e ≡ get_or log (p - 1) e → e.term ≡ term_at log p
term_there log p e pos within is = sym (term_at-read log p (Some e) pos (slice_get_read log (length log) (p - 1) e refl (ltb-true _ _ (sym within)) is))

pub term_past : {C : Type 0} (log : List (Entry C)) (p : ℕ) → p ≢ 0 → false ≡ ltb (p - 1) (length log) → 0 ≡ term_at log p
term_past log p pos past = sym (term_at-read log p None pos (slice_get_past log (p - 1) (ltb-false _ _ (sym past))))
