-- The laws of what is read as one field, and of what is read at a front, from a place on.
use Rattle.std.proofs.Common.{◌≡◌, ℕ, ◌+◌, List, ◌++◌, drop, Result, Ok, Err, refl, ap, subst, ◌∙◌, arith, length-drop}
use Rattle.std.proofs.lemmas.List.{drop-drop, get_or-drop}
use Rattle.fields_model.specs.Format.{Reading, Format, fault_at, one_field, moved, placed, Stands, Lawful}
use Rattle.fields_model.proofs.FormatLaws.{done, ok_is}

-- a value read as one field is the value that is read
field_ok : {A : Type 0} (at : ℕ) (r : Result A ℕ) (y : A) → fault_at at r ≡ Ok y → r ≡ Ok y
field_ok at (Ok x) y e = e
field_ok at (Err d) y e = absurd cc

-- a fault of one field is at its first byte
field_err : {A : Type 0} (at : ℕ) (r : Result A ℕ) (p : ℕ) → fault_at at r ≡ Err p → at ≡ p
field_err at (Ok x) p e = absurd cc
field_err at (Err d) p e = cc

-- one field, with all faults at its first byte
pub one_field_lawful : {A : Type 0} (f : Format A) → Lawful f → Lawful (one_field f)
one_field_lawful f lf = record {
  found = λ bytes at v next fits e.
      let s = lf.found bytes at v next fits (field_ok at (f.read bytes at) (v, next) e) in
      record { fits = s.fits; here = s.here; after = s.after };
  only = λ bytes at v rest fits e. ap (fault_at at) (lf.only bytes at v rest fits e);
  inside = λ bytes at place fits le e. let p = field_err at (f.read bytes at) place e in omega arith;
  short = λ v fits. lf.short v fits;
}

-- a value read from a place on is read at the front of what stands there
moved_ok : {A : Type 0} (at : ℕ) (r : Reading A) (y : A × ℕ) → moved at r ≡ Ok y → (x : A × ℕ) × (r ≡ Ok x) × ((x.0, at + x.1) ≡ y)
moved_ok {A} at (Ok x) y e = let made : A × ℕ = (x.0, at + x.1) in (x, refl, ok_is made y e)
moved_ok at (Err d) y e = absurd cc

-- a fault from a place on is one of what stands there
moved_err : {A : Type 0} (at : ℕ) (r : Reading A) (p : ℕ) → moved at r ≡ Err p → (q : ℕ) × (r ≡ Err q) × (at + q ≡ p)
moved_err at (Ok x) p e = absurd cc
moved_err at (Err d) p e = (d, refl, cc)

-- a format of a front, read from a place on
pub placed_lawful : {A : Type 0} (f : Format A) → Lawful f → Lawful (placed f)
placed_lawful {A} f lf = record {
  found = λ bytes at v next fits e.
      let a = moved_ok at (f.read (drop at bytes) 0) (v, next) e in
      let s = lf.found (drop at bytes) 0 a.0.0 a.0.1 (λ i. rw get_or-drop (fits (at + i))) a.1 in
      let whole : Stands (placed f) bytes at a.0.0 (at + a.0.1) = record {
        fits = s.fits;
        here = s.here ∙ ap (λ (r : List ℕ). f.text a.0.0 ++ r) (drop-drop a.0.1 at bytes);
        after = omega (arith, s.after);
      } in
      subst (λ (p : A × ℕ). Stands (placed f) bytes at p.0 p.1) a.2 whole;
  only = λ bytes at v rest fits e. rw (lf.only (drop at bytes) 0 v rest fits e) (ap (λ (k : ℕ). done (v, k)) (omega arith));
  inside = λ bytes at place fits le e.
      let a = moved_err at (f.read (drop at bytes) 0) place e in
      let within = lf.inside (drop at bytes) 0 a.0 (λ i. rw get_or-drop (fits (at + i))) (omega arith) a.1 in
      let len = length-drop at bytes in
      let sum = a.2 in
      omega arith;
  short = λ v fits. lf.short v fits;
}
