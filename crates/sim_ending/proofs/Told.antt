-- What is told grows by one more line.
use Rattle.std.proofs.Common.{◌≡◌, ◌∙◌, ℕ, suc, ◌+◌, ◌<◌, Option, List, [], ◌∷◌, ◌++◌, length, take, get_or, map, ap, sym, append_assoc, arith, refl}
use Rattle.std.specs.Io.KnownBytes.{Appends}
use Rattle.std.specs.List.{flat_map}
use Rattle.std.proofs.KnownBytes.{Appends-trans}
use Rattle.std.proofs.lemmas.Grind.{flat_map-append}
use Rattle.std.proofs.lemmas.List.{append-nil, length-take-le, take_more}
use Rattle.sim_ending.specs.Endings.{numbered_lines}

module _ {X : Type 0} (xs : List X) (i : ℕ) (x : X) (inside : i < length xs) (at : x ≡ get_or xs i x) where
  taken : take (i + 1) xs ≡ take i xs ++ x ∷ []
  taken = take_more xs i x inside ∙ ap (λ y. take i xs ++ y ∷ []) (sym at)

  pub line_more : (line : X → List ℕ) (old mid new : Option (List ℕ)) → Appends old mid (flat_map line (take i xs)) → Appends mid new (line x) → Appends old new (flat_map line (take (i + 1) xs))
  line_more line old mid new before own =
      rw (taken, flat_map-append line (take i xs) (x ∷ []), append-nil (line x)) (Appends-trans old mid new (flat_map line (take i xs)) (line x) before own)

numbered-append : {X : Type 0} (line : ℕ → X → List ℕ) (k : ℕ) (xs : List X) (x : X) (number : ℕ) → number ≡ k + length xs → numbered_lines line k (xs ++ x ∷ []) ≡ numbered_lines line k xs ++ line number x
numbered-append line k [] x number at = append-nil (line k x) ∙ ap (λ n. line n x) (omega (arith, at))
numbered-append line k (y ∷ xs) x number at =
    ap (λ l. line k y ++ l) (numbered-append line (suc k) xs x number (omega (arith, at))) ∙ sym (append_assoc (line k y) (numbered_lines line (suc k) xs) (line number x))

module _ {X : Type 0} (xs : List X) (i : ℕ) (x : X) (inside : i < length xs) (at : x ≡ get_or xs i x) where
  pub numbered_more : (line : ℕ → X → List ℕ) (old mid new : Option (List ℕ)) → Appends old mid (numbered_lines line 1 (take i xs)) → Appends mid new (line (i + 1) x) → Appends old new (numbered_lines line 1 (take (i + 1) xs))
  numbered_more line old mid new before own =
      let many : length (take i xs) ≡ i = length-take-le i xs (omega arith) in
      rw (taken xs i x inside at, numbered-append line 1 (take i xs) x (i + 1) (omega (arith, many))) (Appends-trans old mid new (numbered_lines line 1 (take i xs)) (line (i + 1) x) before own)

-- one text behind the other
pub told_both : (old mid new : Option (List ℕ)) (front back : List ℕ) → Appends old mid front → Appends mid new back → Appends old new (front ++ back)
told_both old mid new front back first second = Appends-trans old mid new front back first second

pub numbered-map : {A B : Type 0} (line : ℕ → B → List ℕ) (f : A → B) (k : ℕ) (xs : List A) → numbered_lines (λ n x. line n (f x)) k xs ≡ numbered_lines line k (map f xs)
numbered-map line f k [] = refl
numbered-map line f k (x ∷ xs) = ap (λ l. line k (f x) ++ l) (numbered-map line f (suc k) xs)
