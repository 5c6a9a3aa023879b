-- The law of options.
use Rattle.std.proofs.Common.{◌≡◌, ℕ, zero, suc, ◌+◌, ◌≤◌, List, ◌++◌, length, drop, Option, Some, None, Ok, Err, refl, sym, ap, subst, ◌∙◌, append_assoc, arith, length-append}
use Rattle.fields_model.specs.Format.{Reading, ◌>>=◌, Format, spelled, number_at, number, option_text, OptionFits, option_at, option, IsBytes, Stands, Lawful}
use Rattle.fields_model.proofs.FormatLaws.{bind_ok, ok_is, seq_inside, past, length-spelled, flag_lawful}

-- an option that is read stands there
option_found : {A : Type 0} (f : Format A) → Lawful f → (flag : ℕ) (bytes : List ℕ) (at mid : ℕ) (v : Option A) (next : ℕ) → IsBytes bytes → Stands (number 1 0 2) bytes at flag mid → option_at f flag bytes mid ≡ Ok (v, next) → Stands (option f) bytes at v next
option_found {A} f lf zero bytes at mid v next fits s e =
    subst (λ (p : Option A × ℕ). Stands (option f) bytes at p.0 p.1) (ok_is (None, mid) (v, next) e) (record { fits = tt; here = s.here; after = s.after })
option_found {A} f lf (suc zero) bytes at mid v next fits s e =
    let a = bind_ok (f.read bytes mid) (λ x. Ok (Some x.0, x.1)) (v, next) e in
    let t = lf.found bytes mid a.0.0 a.0.1 fits a.1 in
    let whole : Stands (option f) bytes at (Some a.0.0) a.0.1 = record {
      fits = t.fits;
      here = s.here ∙ ap (λ (r : List ℕ). spelled 1 1 ++ r) t.here ∙ sym (append_assoc (spelled 1 1) (f.text a.0.0) (drop a.0.1 bytes));
      after = omega (arith, s.after, t.after, length-append (spelled 1 1) (f.text a.0.0));
    } in
    subst (λ (p : Option A × ℕ). Stands (option f) bytes at p.0 p.1) (ok_is (Some a.0.0, a.0.1) (v, next) a.2) whole
option_found f lf (suc (suc n)) bytes at mid v next fits s e = absurd (omega (arith, s.fits.1))

-- an option that stands there is read
option_only : {A : Type 0} (f : Format A) → Lawful f → (bytes : List ℕ) (at : ℕ) (v : Option A) (rest : List ℕ) → OptionFits f v → drop at bytes ≡ option_text f v ++ rest → (option f).read bytes at ≡ Ok (v, at + length (option_text f v))
option_only f lf bytes at None rest fits e =
    let first = flag_lawful.only bytes at 0 rest (omega arith, omega arith) e in
    ap (λ (r : Reading ℕ). r >>= λ flag. option_at f flag.0 bytes flag.1) first
option_only f lf bytes at (Some x) rest fits e =
    let here : drop at bytes ≡ spelled 1 1 ++ (f.text x ++ rest) = e ∙ append_assoc (spelled 1 1) (f.text x) rest in
    let first = flag_lawful.only bytes at 1 (f.text x ++ rest) (omega arith, omega arith) here in
    let second = lf.only bytes (at + length (spelled 1 1)) x rest fits (past at bytes (spelled 1 1) (f.text x ++ rest) here) in
    let len : at + length (spelled 1 1) + length (f.text x) ≡ at + length (spelled 1 1 ++ f.text x) = omega (arith, length-append (spelled 1 1) (f.text x)) in
    ap (λ (r : Reading ℕ). r >>= λ flag. option_at f flag.0 bytes flag.1) first ∙ rw (second, len) refl

-- a fault of an option lies within the bytes
option_inside : {A : Type 0} (f : Format A) → Lawful f → (flag : ℕ) (bytes : List ℕ) (at place : ℕ) → IsBytes bytes → at ≤ length bytes → option_at f flag bytes at ≡ Err place → place ≤ length bytes
option_inside f lf zero bytes at place fits le e = absurd cc
option_inside f lf (suc n) bytes at place fits le e = seq_inside f lf bytes at place (λ x. Ok (Some x.0, x.1)) fits le e (λ a fa lea ea. absurd cc)

-- the text of an option is no longer than said
option_short : {A : Type 0} (f : Format A) → Lawful f → (o : Option A) → OptionFits f o → length (option_text f o) ≤ 1 + f.most
option_short f lf None fits = omega (arith, length-spelled 1 0)
option_short f lf (Some x) fits = omega (arith, lf.short x fits, length-append (spelled 1 1) (f.text x), length-spelled 1 1)

-- a flag, and the value where there is one
pub option_lawful : {A : Type 0} (f : Format A) → Lawful f → Lawful (option f)
option_lawful f lf = record {
  found = λ bytes at v next fits e.
      let a = bind_ok (number_at 1 0 2 bytes at) (λ flag. option_at f flag.0 bytes flag.1) (v, next) e in
      let s = flag_lawful.found bytes at a.0.0 a.0.1 fits a.1 in
      option_found f lf a.0.0 bytes at a.0.1 v next fits s a.2;
  only = λ bytes at v rest fits e. option_only f lf bytes at v rest fits e;
  inside = λ bytes at place fits le e.
      seq_inside (number 1 0 2) flag_lawful bytes at place (λ flag. option_at f flag.0 bytes flag.1) fits le e
      (λ a fa lea ea. option_inside f lf a.0 bytes a.1 place fits lea ea);
  short = λ v fits. option_short f lf v fits;
}
