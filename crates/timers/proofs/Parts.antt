-- A list that is made one by one.
use Rattle.std.proofs.Common.{◌≡◌, ◌∙◌, ℕ, ◌+◌, ◌<◌, List, [], ◌∷◌, ◌++◌, length, take, map, get_or, sym, ap, append_assoc}
use Rattle.std.proofs.lemmas.List.{map_more}

-- one more is put behind those of the ones before
pub mapped_more : {X Y : Type 0} (f : X → Y) (xs : List X) (i : ℕ) (x : X) (old mid new : List Y) → i < length xs → x ≡ get_or xs i x
    → mid ≡ old ++ map f (take i xs) → new ≡ mid ++ f x ∷ [] → new ≡ old ++ map f (take (i + 1) xs)
mapped_more f xs i x old mid new within is so put =
    let one : map f (take (i + 1) xs) ≡ map f (take i xs) ++ f x ∷ [] = map_more f xs i x within ∙ ap (λ y. map f (take i xs) ++ f y ∷ []) (sym is) in
    put ∙ ap (λ ys. ys ++ f x ∷ []) so ∙ append_assoc old (map f (take i xs)) (f x ∷ []) ∙ ap (λ ys. old ++ ys) (sym one)
