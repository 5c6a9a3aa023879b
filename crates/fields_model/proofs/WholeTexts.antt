-- What reads as a value is its text, and no text begins another.
use Rattle.std.proofs.Common.{◌≡◌, ℕ, ◌+◌, true, cond, eqb, List, [], ◌++◌, length, drop, Ok, Err, refl, sym, ap, subst, ◌∙◌, arith}
use Rattle.std.proofs.lemmas.Bool.{eqb-true, eq-eqb}
use Rattle.std.proofs.lemmas.List.{drop_all, append-nil}
use Rattle.fields_model.specs.Format.{Format, whole, IsBytes, Lawful}
use Rattle.fields_model.proofs.FormatLaws.{bind_ok, guard_in, ok_is}

-- all of the bytes are the text of the value that they read as
pub whole_found : {A : Type 0} (f : Format A) → Lawful f → (bytes : List ℕ) (v : A) → IsBytes bytes → whole f bytes ≡ Ok v → f.Fits v × (bytes ≡ f.text v)
whole_found {A} f lf bytes v fits e =
    let a = bind_ok (f.read bytes 0) (λ a. cond (eqb a.1 (length bytes)) (Ok a.0) (Err a.1)) v e in
    let b = guard_in (eqb a.0.1 (length bytes)) a.0.1 a.0.0 v a.2 in
    let s = lf.found bytes 0 a.0.0 a.0.1 fits a.1 in
    let ended : a.0.1 ≡ length bytes = eqb-true _ _ b.0 in
    let none : drop a.0.1 bytes ≡ [] = drop_all a.0.1 bytes (omega (arith, ended)) in
    let here : bytes ≡ f.text a.0.0 = s.here ∙ ap (λ (r : List ℕ). f.text a.0.0 ++ r) none ∙ append-nil (f.text a.0.0) in
    subst (λ (v : A). f.Fits v × (bytes ≡ f.text v)) b.1 (s.fits, here)

-- the text of a value reads as that value
pub whole_only : {A : Type 0} (f : Format A) → Lawful f → (v : A) → f.Fits v → whole f (f.text v) ≡ Ok v
whole_only f lf v fits =
    let first = lf.only (f.text v) 0 v [] fits (sym (append-nil (f.text v))) in
    let ended : eqb (0 + length (f.text v)) (length (f.text v)) ≡ true = eq-eqb _ _ (omega arith) in
    rw (first, ended) refl

-- the text of one value begins the text of no other
pub no_text_begins_another : {A : Type 0} (f : Format A) → Lawful f → (a b : A) (x y : List ℕ) → f.Fits a → f.Fits b → f.text a ++ x ≡ f.text b ++ y → a ≡ b
no_text_begins_another f lf a b x y fa fb e =
    let p = lf.only (f.text a ++ x) 0 a x fa refl in
    let q = lf.only (f.text a ++ x) 0 b y fb e in
    ap (λ p. p.0) (ok_is (a, 0 + length (f.text a)) (b, 0 + length (f.text b)) (sym p ∙ q))
