-- Lists of ids without doubles.
use Rattle.std.proofs.Common.{◌≡◌, ℕ, nat_eq, sym, Bool, true, false, not, ◌&&◌, ◌||◌, List, [], ◌∷◌, ◌++◌, append_assoc, subst, refl, ap, ◌∙◌, arith}
use Rattle.std.specs.List.{list_any}
use Rattle.std.proofs.lemmas.List.Folds.{list_any-append}
use Rattle.rows.specs.declared.allocation.AllocId.{AllocId}
use Rattle.fsm_model.specs.Words.{same_alloc}
use Rattle.client_agent.specs.Capacity.{have_distinct_ids, AreDistinct}

pub turned : (a b : AllocId) → same_alloc a b ≡ same_alloc b a
turned a b = grind arith

first_of : (a b : Bool) → (a && b) ≡ true → a ≡ true
first_of true b e = refl
first_of false b e = absurd cc

second_of : (a b : Bool) → (a && b) ≡ true → b ≡ true
second_of true b e = e
second_of false b e = absurd cc

none_of : (a b : Bool) → (a || b) ≡ false → a ≡ false
none_of true b e = absurd cc
none_of false b e = refl

nor_of : (a b : Bool) → (a || b) ≡ false → b ≡ false
nor_of true b e = absurd cc
nor_of false b e = e

off : (b : Bool) → not b ≡ true → b ≡ false
off true e = absurd cc
off false e = refl

same_numbers : (n m : ℕ) → nat_eq n m ≡ true → n ≡ m
same_numbers n m e = grind arith

pub same_ids : (a b : AllocId) → same_alloc a b ≡ true → a ≡ b
same_ids a b e =
    let index = same_numbers a.index b.index (first_of (nat_eq a.index b.index) (nat_eq a.slot b.slot) e) in
    let slot = same_numbers a.slot b.slot (second_of (nat_eq a.index b.index) (nat_eq a.slot b.slot) e) in
    (λ i. record { index = index i; slot = slot i })

-- an id that is not there may stand behind
pub distinct_push : (ids : List AllocId) (id : AllocId) → AreDistinct ids → list_any (same_alloc id) ids ≡ false → AreDistinct (ids ++ id ∷ [])
distinct_push [] id d new = refl
distinct_push (x ∷ xs) id d new =
    let apart : same_alloc x id ≡ false = turned x id ∙ none_of (same_alloc id x) (list_any (same_alloc id) xs) new in
    let others : list_any (same_alloc x) xs ≡ false = off (list_any (same_alloc x) xs) (first_of (not (list_any (same_alloc x) xs)) (have_distinct_ids xs) d) in
    let rest = distinct_push xs id (second_of (not (list_any (same_alloc x) xs)) (have_distinct_ids xs) d) (nor_of (same_alloc id x) (list_any (same_alloc id) xs) new) in
    ap (λ b. not b && have_distinct_ids (xs ++ id ∷ [])) (list_any-append (same_alloc x) xs (id ∷ []) ∙ (λ i. others i || (apart i || false)))
    ∙ rest

-- the last one stands nowhere else
pub last_alone : (ids : List AllocId) (id : AllocId) → AreDistinct (ids ++ id ∷ []) → list_any (same_alloc id) ids ≡ false
last_alone [] id d = refl
last_alone (x ∷ xs) id d =
    let all = list_any (same_alloc x) (xs ++ id ∷ []) in
    let none = off all (first_of (not all) (have_distinct_ids (xs ++ id ∷ [])) d) in
    let ends = nor_of (list_any (same_alloc x) xs) (same_alloc x id || false) (sym (list_any-append (same_alloc x) xs (id ∷ [])) ∙ none) in
    let apart : same_alloc id x ≡ false = turned id x ∙ none_of (same_alloc x id) false ends in
    (λ i. apart i || last_alone xs id (second_of (not all) (have_distinct_ids (xs ++ id ∷ [])) d) i)

pub all_but_last : (ids : List AllocId) (id : AllocId) → AreDistinct (ids ++ id ∷ []) → AreDistinct ids
all_but_last [] id d = refl
all_but_last (x ∷ xs) id d =
    let all = list_any (same_alloc x) (xs ++ id ∷ []) in
    let none = off all (first_of (not all) (have_distinct_ids (xs ++ id ∷ [])) d) in
    let front = none_of (list_any (same_alloc x) xs) (same_alloc x id || false) (sym (list_any-append (same_alloc x) xs (id ∷ [])) ∙ none) in
    (λ i. not (front i) && all_but_last xs id (second_of (not all) (have_distinct_ids (xs ++ id ∷ [])) d) i)

pub distinct_front : (xs ys : List AllocId) → AreDistinct (xs ++ ys) → AreDistinct xs
distinct_front [] ys d = refl
distinct_front (x ∷ xs) ys d =
    let all = list_any (same_alloc x) (xs ++ ys) in
    let none = off all (first_of (not all) (have_distinct_ids (xs ++ ys)) d) in
    let front = none_of (list_any (same_alloc x) xs) (list_any (same_alloc x) ys) (sym (list_any-append (same_alloc x) xs ys) ∙ none) in
    (λ i. not (front i) && distinct_front xs ys (second_of (not all) (have_distinct_ids (xs ++ ys)) d) i)

-- where one stands among those in front of it, some id stands there twice
pub stands_twice : (ids front rest : List AllocId) (id : AllocId) → ids ≡ front ++ id ∷ rest → list_any (same_alloc id) front ≡ true → AreDistinct ids → ⊥
stands_twice ids front rest id is among distinct =
    let split : ids ≡ (front ++ id ∷ []) ++ rest = is ∙ sym (append_assoc front (id ∷ []) rest) in
    let alone = last_alone front id (distinct_front (front ++ id ∷ []) rest (subst AreDistinct split distinct)) in
    let both : true ≡ false = sym among ∙ alone in
    absurd (cc both)
