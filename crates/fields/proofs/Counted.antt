-- A list that was read, of which the type of such lists refused the items, is empty.
use Rattle.std.proofs.Common.{◌≡◌, ℕ, ◌≤◌, ◌<◌, Bool, true, List, [], length, Ok, Err, refl, arith, inl, inr}
use Rattle.std.proofs.lemmas.Bool.{cases_lt, le-ltb}
use Rattle.rows.specs.Rising.{keeps}
use Rattle.fields_model.specs.Format.{Format, Lawful, IsBytes, list, ruled_list, some}

pub ruled_is_empty : {A : Type 0} (most : ℕ) (rule : List A → A → Bool) (f : Format A) (behind : List A → Format A) → Lawful (ruled_list 1 most rule f behind)
    → (bytes : List ℕ) (at : ℕ) (items : List A) (next : ℕ) → IsBytes bytes → (ruled_list 1 most rule f behind).read bytes at ≡ Ok (items, next)
    → ((1 ≤ length items) × (length items ≤ most) × (keeps rule [] items ≡ true) → ⊥) → (some (ruled_list 1 most rule f behind)).read bytes at ≡ Err at
ruled_is_empty most rule f behind law bytes at items next fits e refused =
    let s = law.found bytes at items next fits e in
    elim (cases_lt 0 (length items)) [
      | inl lt ↦ absurd (refused (lt, s.fits.0, s.fits.1))
      | inr le ↦ rw (e, le-ltb _ _ le) refl
    ]

pub list_is_empty : {A : Type 0} (most : ℕ) (f : Format A) → Lawful (list 1 most f)
    → (bytes : List ℕ) (at : ℕ) (items : List A) (next : ℕ) → IsBytes bytes → (list 1 most f).read bytes at ≡ Ok (items, next)
    → ((1 ≤ length items) → most < length items) → (some (list 1 most f)).read bytes at ≡ Err at
list_is_empty most f law bytes at items next fits e refused =
    let s = law.found bytes at items next fits e in
    elim (cases_lt 0 (length items)) [
      | inl lt ↦ let past = refused lt in let few = s.fits.0 in absurd (omega arith)
      | inr le ↦ rw (e, le-ltb _ _ le) refl
    ]
