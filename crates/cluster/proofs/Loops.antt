-- A loop over all items of a vector.
use Rattle.std.specs.Prelude.{Result, Ok, Err, IfOk}
use Rattle.std.proofs.Common.{◌≡◌, ℕ, List, [], ◌∷◌, ◌++◌, length, map, sym, refl, ap, ◌∙◌, arith, append_assoc, append-nil}
use Rattle.std.proofs.lemmas.List.{map-append}

nothing_left : {A : Type 0} (xs : List A) → length xs ≡ 0 → xs ≡ []
nothing_left [] h = refl
nothing_left (x ∷ xs) h = absurd (omega arith)

pub all_seen : {A : Type 0} (seen left all : List A) (n : ℕ) → seen ++ left ≡ all → n ≡ length left → n ≡ 0 → seen ≡ all
all_seen seen left all n is size none = sym (append-nil seen) ∙ ap (λ l. seen ++ l) (sym (nothing_left left (sym size ∙ none))) ∙ is

pub one_more : {A : Type 0} (seen left all rest : List A) (x : A) → seen ++ left ≡ all → left ≡ x ∷ rest → (seen ++ x ∷ []) ++ rest ≡ all
one_more seen left all rest x is at = append_assoc seen (x ∷ []) rest ∙ ap (λ l. seen ++ l) (sym at) ∙ is

pub map_more : {A B : Type 0} (f : A → B) (seen : List A) (x : A) (made more : List B) (y : B) → more ≡ made ++ y ∷ [] → made ≡ map f seen → y ≡ f x → more ≡ map f (seen ++ x ∷ [])
map_more f seen x made more y is was new = is ∙ (λ k. was k ++ new k ∷ []) ∙ sym (map-append f seen (x ∷ []))

-- what clauses of an answer say together
pub ok_together : {X E : Type 0} (A B C D F G : X → Type 0) (q : Result X E) → IfOk q A → IfOk q B → IfOk q C → IfOk q D → IfOk q F → ((x : X) → A x → B x → C x → D x → F x → G x) → IfOk q G
ok_together A B C D F G (Ok x) a b c d f go = go x a b c d f
ok_together A B C D F G (Err e) a b c d f go = f

pub ok_both : {X E : Type 0} (A B C : X → Type 0) (q : Result X E) → IfOk q A → IfOk q B → ((x : X) → A x → B x → C x) → IfOk q C
ok_both A B C (Ok x) a b go = go x a b
ok_both A B C (Err e) a b go = a

-- what follows from a clause of an answer
pub ok_and : {X E : Type 0} (A B : X → Type 0) (q : Result X E) → IfOk q A → ((x : X) → A x → B x) → IfOk q B
ok_and A B (Ok x) a go = go x a
ok_and A B (Err e) a go = a
