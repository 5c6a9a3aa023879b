-- Where memory is wanting, there is one that wants it.
use Rattle.std.proofs.Common.{◌≡◌, ◌≤◌, Bool, true, false, ◌||◌, cond, length, List, [], ◌∷◌, map, filter, Ok, Err, refl, ap, ◌∙◌, arith}
use Rattle.std.specs.Prelude.{Result, OnErr}
use Rattle.std.specs.List.{list_any}

-- what is so in any case is so where there is an error
pub on_err : {T E P : Type 0} (r : Result T E) → P → OnErr r P
on_err (Ok x) p = tt
on_err (Err e) p = p

-- one that passes, of those that are left of some
pub one_passes : {X : Type 0} (p : X → Bool) (left rest all : List X) (x : X) → (list_any p left ≡ true → list_any p all ≡ true) → left ≡ x ∷ rest → p x ≡ true → list_any p all ≡ true
one_passes p left rest all x so is pass = so (ap (list_any p) is ∙ ap (λ b. b || list_any p rest) pass)

-- where one behind the first passes, one of all does
pub behind_passes : {X : Type 0} (p : X → Bool) (left rest all : List X) (x : X) → (list_any p left ≡ true → list_any p all ≡ true) → left ≡ x ∷ rest → list_any p rest ≡ true → list_any p all ≡ true
behind_passes p left rest all x so is pass = so (ap (list_any p) is ∙ ap (λ b. p x || b) pass ∙ by (p x))
  where
    by : (b : Bool) → (b || true) ≡ true
    by true = refl
    by false = refl

-- one of those of which something was made
pub some_pass : {X Y : Type 0} (p : X → Bool) (f : X → Y) (xs : List X) → 1 ≤ length (map f (filter p xs)) → list_any p xs ≡ true
some_pass p f [] h = absurd (omega (arith, h))
some_pass p f (x ∷ xs) h = by (p x) h (some_pass p f xs) where
  by : (b : Bool) → 1 ≤ length (map f (cond b (x ∷ filter p xs) (filter p xs))) → (1 ≤ length (map f (filter p xs)) → list_any p xs ≡ true) → (b || list_any p xs) ≡ true
  by true h rest = refl
  by false h rest = rest h
