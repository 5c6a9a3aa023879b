-- Two lists whose items stand in a relation, place by place.
use Rattle.std.proofs.Common.{◌≡◌, ℕ, zero, suc, ◌<◌, ◌≤◌, Option, Some, None, List, [], ◌∷◌, ◌++◌, length, refl, sym, ap, subst, slice_get, slice_set, Bor}
use Rattle.std.proofs.Math.ListN.{get_or}
use Rattle.std.proofs.lemmas.Option.{same_Some, slice_get_past, slice_get_read}
use Rattle.std.specs.Prelude.{IfSome, MatchOption}
use Rattle.std.specs.Option.{option_copied}
use Rattle.std.specs.List.{AllZip}

module _ {A B : Type 0} (R : A → B → Type 0) where
  pub zip_length : (xs : List A) (ys : List B) → AllZip R xs ys → length xs ≡ length ys
  zip_length [] [] z = refl
  zip_length [] (y ∷ ys) z = absurd z
  zip_length (x ∷ xs) [] z = absurd z
  zip_length (x ∷ xs) (y ∷ ys) z = ap suc (zip_length xs ys z.1)

  pub zip_set : (xs : List A) (ys : List B) (i : ℕ) (x : A) (y : B) → AllZip R xs ys → R x y → AllZip R (slice_set xs i x) (slice_set ys i y)
  zip_set [] [] i x y z r = tt
  zip_set [] (b ∷ ys) i x y z r = absurd z
  zip_set (a ∷ xs) [] i x y z r = absurd z
  zip_set (a ∷ xs) (b ∷ ys) zero x y z r = (r, z.1)
  zip_set (a ∷ xs) (b ∷ ys) (suc i) x y z r = (z.0, zip_set xs ys i x y z.1 r)

  pub zip_append : (xs : List A) (ys : List B) (us : List A) (vs : List B) → AllZip R xs ys → AllZip R us vs → AllZip R (xs ++ us) (ys ++ vs)
  zip_append [] [] us vs z r = r
  zip_append [] (b ∷ ys) us vs z r = absurd z
  zip_append (a ∷ xs) [] us vs z r = absurd z
  zip_append (a ∷ xs) (b ∷ ys) us vs z r = (z.0, zip_append xs ys us vs z.1 r)

  -- what the first list has at a place is related to what the second has there
  pub zip_at : (xs : List A) (ys : List B) (i : ℕ) (x : A) → AllZip R xs ys → slice_get xs i ≡ Some x → (y : B) × (slice_get ys i ≡ Some y) × R x y
  zip_at [] ys i x z h = absurd (cc)
  zip_at (a ∷ xs) [] i x z h = absurd z
  zip_at (a ∷ xs) (b ∷ ys) zero x z h = (b, refl, subst (λ (v : A). R v b) (same_Some a x h) z.0)
  zip_at (a ∷ xs) (b ∷ ys) (suc i) x z h = zip_at xs ys i x z.1 h

  -- and the other way round
  pub zip_from : (xs : List A) (ys : List B) (i : ℕ) (y : B) → AllZip R xs ys → slice_get ys i ≡ Some y → (x : A) × (slice_get xs i ≡ Some x) × R x y
  zip_from xs [] i y z h = absurd (cc)
  zip_from [] (b ∷ ys) i y z h = absurd z
  zip_from (a ∷ xs) (b ∷ ys) zero y z h = (a, refl, subst (λ (v : B). R a v) (same_Some b y h) z.0)
  zip_from (a ∷ xs) (b ∷ ys) (suc i) y z h = zip_from xs ys i y z.1 h

  pub zip_none : (xs : List A) (ys : List B) (i : ℕ) → AllZip R xs ys → slice_get xs i ≡ None → slice_get ys i ≡ None
  zip_none [] [] i z h = refl
  zip_none [] (b ∷ ys) i z h = absurd z
  zip_none (a ∷ xs) [] i z h = refl
  zip_none (a ∷ xs) (b ∷ ys) zero z h = absurd (cc)
  zip_none (a ∷ xs) (b ∷ ys) (suc i) z h = zip_none xs ys i z.1 h

-- what a look-up in a list borrows is the item at that place
pub looked_up : {A : Type 0} (xs : List A) (i : ℕ) (P : Bor A → Type 0) (r : Option (Bor A)) → IfSome r (λ x. x.now ≡ get_or xs i x.now) → MatchOption r (length xs ≤ i) (λ x. (i < length xs) × P x) → option_copied r ≡ slice_get xs i
looked_up xs i P None read past = sym (slice_get_past xs i past)
looked_up xs i P (Some x) read within = sym (slice_get_read xs (length xs) i x.now refl within.0 read)
