-- Text that is put to the end element by element.
use Rattle.std.proofs.Common.{◌≡◌, ◌∙◌, ℕ, ◌+◌, ◌<◌, List, ◌++◌, length, take, get_or, ap, sym}
use Rattle.std.specs.List.{flat_map}
use Rattle.std.proofs.lemmas.List.{flat_map_more, take_more}

pub flat_more : {X : Type 0} (f : X → List ℕ) (head now new : List ℕ) (xs : List X) (i : ℕ) (x : X) → i < length xs
    → x ≡ get_or xs i x → now ≡ head ++ flat_map f (take i xs) → new ≡ now ++ f x
    → new ≡ head ++ flat_map f (take (i + 1) xs)
flat_more f head now new xs i x lt at is more =
    more
    ∙ ap (λ text. text ++ f x) is
    ∙ ap (λ y. (head ++ flat_map f (take i xs)) ++ f y) at
    ∙ flat_map_more f head (take i xs) (get_or xs i x)
    ∙ ap (λ front. head ++ flat_map f front) (sym (take_more xs i x lt))
