-- One more word of a command line.
use Rattle.std.proofs.Common.{◌≡◌, ◌∙◌, ◌+◌, ◌<◌, ◌++◌, ◌∷◌, ℕ, List, [], Bor, String, ap, get_or, length, map, refl, string_bytes, sym, take}
use Rattle.std.specs.declared.alloc.Global.{Global}
use Rattle.std.proofs.lemmas.List.{map-append, take_more}

pub one_more_word : (words : List (Bor (List ℕ))) (word : Bor (List ℕ)) (given : List (String Global)) (i : ℕ) (x : String Global)
    → map (λ (w : Bor (List ℕ)). w.now) words ≡ map string_bytes (take i given) → i < length given → x ≡ get_or given i x → word.now ≡ string_bytes x
    → map (λ (w : Bor (List ℕ)). w.now) (words ++ word ∷ []) ≡ map string_bytes (take (i + 1) given)
one_more_word words word given i x before inside at is =
    let taken : take (i + 1) given ≡ take i given ++ x ∷ [] = take_more given i x inside ∙ ap (λ y. take i given ++ y ∷ []) (sym at) in
    rw (taken, map-append string_bytes (take i given) (x ∷ []), map-append (λ (w : Bor (List ℕ)). w.now) words (word ∷ []), before, is) refl
