-- A text that is read again.
use Rattle.std.proofs.Common.{◌≡◌, ◌∙◌, ap, sym, refl, ℕ, Result, Ok, Err, List, [], ◌++◌, length, append-nil}
use Rattle.rows.specs.declared.refusal.Refusal.{Refusal}
use Rattle.rows.specs.declared.refusal.Refusal.TheVariants as refusals
use Rattle.fields_model.specs.Format.{Format, Refuses}

no_answer : {A : Type 0} (reading : Result A ℕ) (v : A) (place : ℕ) → reading ≡ Ok v → reading ≡ Err place → ⊥
no_answer reading v place is fault = absurd (cc (sym is ∙ fault))

-- only want of memory refuses what reads
pub no_fault : {A : Type 0} (cause : Refusal) (reading : Result A ℕ) (v : A) → reading ≡ Ok v → Refuses (Unit {0}) cause reading → (cause ≡ refusals.NoMemory → ⊥) → ⊥
no_fault refusals.NoMemory reading v is refused other = other refl
no_fault (refusals.Frame place) reading v is refused other = no_answer reading v place is refused
no_fault _ reading v is refused other = refused

first_or : {A : Type 0} → A → Result (A × ℕ) ℕ → A
first_or d (Ok p) = p.0
first_or d (Err e) = d

-- what was written reads as what it was
pub read_again : {C : Type 0} (commands : Format C) (c again : C) (size : ℕ) (bytes before after : List ℕ) → before ≡ [] → after ≡ before ++ commands.text c → bytes ≡ after → commands.read bytes 0 ≡ Ok (again, size) →
    commands.read (commands.text c ++ []) 0 ≡ Ok (c, length (commands.text c)) → again ≡ c
unfolding first_or
read_again commands c again size bytes before after empty wrote same reads law =
    let is : bytes ≡ commands.text c ++ [] = same ∙ (wrote ∙ (ap (λ l. l ++ commands.text c) empty ∙ sym (append-nil (commands.text c)))) in
    let both : Ok (again, size) ≡ Ok (c, length (commands.text c)) = sym reads ∙ (ap (λ l. commands.read l 0) is ∙ law) in
    ap (λ q. first_or c q) both
