-- Laws of lists and tests.
use Rattle.std.proofs.Common.{◌≡◌, ℕ, zero, suc, Bool, true, false, cond, ◌&&◌, ◌||◌, T, List, [], ◌∷◌, drop, filter, map, Some, refl, sym, ap}
use Rattle.std.specs.List.{list_any, slice_get}

pub maps : {A B C : Type 0} (g : B → C) (f : A → B) (xs : List A) → map g (map f xs) ≡ map (λ x. g (f x)) xs
maps g f [] = refl
maps g f (x ∷ xs) = ap (λ zs. g (f x) ∷ zs) (maps g f xs)

pub map_itself : {A : Type 0} (xs : List A) → map (λ x. x) xs ≡ xs
map_itself [] = refl
map_itself (x ∷ xs) = ap (λ zs. x ∷ zs) (map_itself xs)

pub maps_same : {A : Type 0} (f g : A → A) → ((x : A) → f x ≡ g x) → (xs : List A) → map f xs ≡ map g xs
maps_same f g h xs = λ i. map (λ x. h x i) xs

pub anys_same : {A : Type 0} (p q : A → Bool) → ((x : A) → p x ≡ q x) → (xs : List A) → list_any p xs ≡ list_any q xs
anys_same p q h xs = λ i. list_any (λ x. h x i) xs

pub or_false : (b : Bool) → (b || false) ≡ b
or_false true = refl
or_false false = refl

pub and_false : (b : Bool) → (b && false) ≡ false
and_false true = refl
and_false false = refl

pub and_true : (b : Bool) → (b && true) ≡ b
and_true true = refl
and_true false = refl

pub swap : (a b : Bool) → (a && b) ≡ (b && a)
swap true b = sym (and_true b)
swap false b = sym (and_false b)

pub and_assoc : (a b c : Bool) → (a && b && c) ≡ (a && (b && c))
and_assoc true b c = refl
and_assoc false b c = refl

pub both_tests : {A : Type 0} (a b : Bool) (x y : A) → cond a (cond b x y) y ≡ cond (a && b) x y
both_tests true b x y = refl
both_tests false b x y = refl

pub same_truth : (a b : Bool) → (T a → T b) → (T b → T a) → a ≡ b
same_truth true true f g = refl
same_truth true false f g = absurd (f tt)
same_truth false true f g = absurd (g tt)
same_truth false false f g = refl

pub filter_both : {A : Type 0} (p q : A → Bool) (xs : List A) → filter q (filter p xs) ≡ filter (λ x. p x && q x) xs
filter_both p q [] = refl
filter_both p q (x ∷ xs) = elim (p x) as (λ b. filter q (cond b (x ∷ filter p xs) (filter p xs)) ≡ cond (b && q x) (x ∷ filter (λ x. p x && q x) xs) (filter (λ x. p x && q x) xs)) [
  | true ↦ ap (λ zs. cond (q x) (x ∷ zs) zs) (filter_both p q xs)
  | false ↦ filter_both p q xs
]

-- what is left of a list from a place on
pub rest_from : {A : Type 0} (xs : List A) (i : ℕ) (x : A) → Some x ≡ slice_get xs i → drop i xs ≡ x ∷ drop (suc i) xs
rest_from [] i x e = absurd cc
rest_from (y ∷ xs) zero x e = let same : x ≡ y = cc in ap (λ z. z ∷ xs) (sym same)
rest_from (y ∷ xs) (suc i) x e = rest_from xs i x e
