-- Lists of actors: which are in them, and that no more than 69 differ.
use Rattle.std.proofs.Common.{◌≡◌, ◌≢◌, ◌⊎◌, ℕ, eqb, eq-eqb, subst, zero, suc, ◌<◌, ◌≤◌, List, [], ◌∷◌, ◌++◌, length, Bool, true, false, true≢false, sym, refl, ap, ◌∙◌, inl, inr, ⊎_elim, arith}
use Rattle.std.specs.Prelude.{if◌then◌else◌, ◌||◌, ◌&&◌, not}
use Rattle.std.specs.List.{AllByRecursion}
use Rattle.std.proofs.lemmas.Bool.{eqb-true}
use Rattle.std.proofs.lemmas.Bool.Decides.{eqb_tells}
use Rattle.rows.specs.declared.actor.Actor.{Actor}
use Rattle.rows.specs.declared.actor.Actor.TheVariants.{Server, Client}
use Rattle.event_book.specs.Actors.{same_actor, lists_actor, are_apart}
use Rattle.event_book.specs.Inner.Actors.{IsActor}

pub same_is : (a b : Actor) → same_actor a b ≡ true → a ≡ b
same_is (Server m) (Server n) e = ap Server (eqb-true m n e)
same_is (Server m) (Client n) e = absurd (true≢false (sym e))
same_is (Client m) (Server n) e = absurd (true≢false (sym e))
same_is (Client m) (Client n) e = ap Client (eqb-true m n e)

same_self : (a : Actor) → same_actor a a ≡ true
same_self (Server m) = eq-eqb m m refl
same_self (Client m) = eq-eqb m m refl

pub is_same : (a b : Actor) → a ≡ b → same_actor a b ≡ true
is_same a b e = sym (ap (same_actor a) e) ∙ same_self a

pub apart_is : (a b : Actor) → a ≢ b → same_actor a b ≡ false
apart_is a b apart = case (same_actor a b) refl
  where
    case : (c : Bool) → same_actor a b ≡ c → same_actor a b ≡ false
    case true e = absurd (apart (same_is a b e))
    case false e = e

pub same_tells : (a b : Actor) → (a ≡ b) ⊎ (a ≢ b)
same_tells a b = case (same_actor a b) refl
  where
    case : (c : Bool) → same_actor a b ≡ c → (a ≡ b) ⊎ (a ≢ b)
    case true e = inl (same_is a b e)
    case false e = inr (λ s. true≢false (sym (is_same a b s) ∙ e))

pub or_left : (b c : Bool) → (b || c) ≡ false → b ≡ false
or_left true c e = e
or_left false c e = refl

pub or_right : (b c : Bool) → (b || c) ≡ false → c ≡ false
or_right true c e = absurd (true≢false e)
or_right false c e = e

pub or_false : (b c : Bool) → b ≡ false → c ≡ false → (b || c) ≡ false
or_false b c h k = ap (λ (x : Bool). x || c) h ∙ k

pub or_later : (b c : Bool) → c ≡ true → (b || c) ≡ true
or_later true c h = refl
or_later false c h = h

or_else : (b c : Bool) → (b || c) ≡ true → b ≡ false → c ≡ true
or_else b c h n = sym (ap (λ (x : Bool). x || c) n) ∙ h

pub both_true : (b c : Bool) → b ≡ false → c ≡ true → (not b && c) ≡ true
both_true b c h k = ap (λ (x : Bool). not x && c) h ∙ k

pub not_true : (b c : Bool) → (not b && c) ≡ true → b ≡ false
not_true true c e = absurd (true≢false (sym e))
not_true false c e = refl

pub and_true : (b c : Bool) → (not b && c) ≡ true → c ≡ true
and_true true c e = absurd (true≢false (sym e))
and_true false c e = e

named_first : (a : Actor) (rest : List Actor) → lists_actor (a ∷ rest) a ≡ true
named_first a rest = ap (λ (c : Bool). c || lists_actor rest a) (same_self a)

pub named_at : (pre rest : List Actor) (a : Actor) → lists_actor (pre ++ a ∷ rest) a ≡ true
named_at [] rest a = named_first a rest
named_at (x ∷ xs) rest a = or_later (same_actor x a) (lists_actor (xs ++ a ∷ rest) a) (named_at xs rest a)

-- the list without the first place of a
less : Actor → List Actor → List Actor
less a [] = []
less a (x ∷ xs) = if same_actor x a then xs else x ∷ less a xs

less_one : (b : Bool) (x : Actor) (xs ys : List Actor) → (b ≡ false → suc (length ys) ≡ length xs) → suc (length (if b then xs else x ∷ ys)) ≡ suc (length xs)
less_one true x xs ys f = refl
less_one false x xs ys f = let h = f refl in omega arith

less_length : (a : Actor) (ys : List Actor) → lists_actor ys a ≡ true → suc (length (less a ys)) ≡ length ys
unfolding less
less_length a [] h = absurd (true≢false (sym h))
less_length a (x ∷ xs) h = less_one (same_actor x a) x xs (less a xs) (λ n. less_length a xs (or_else (same_actor x a) (lists_actor xs a) h n))

less_has_one : (k b : Bool) (a x z : Actor) (xs ys : List Actor) → same_actor x a ≡ k → same_actor x z ≡ b → z ≢ a → (b || lists_actor xs z) ≡ true → (lists_actor xs z ≡ true → lists_actor ys z ≡ true)
    → lists_actor (if k then xs else x ∷ ys) z ≡ true
less_has_one true true a x z xs ys ka kb apart h f = absurd (apart (sym (same_is x z kb) ∙ same_is x a ka))
less_has_one true false a x z xs ys ka kb apart h f = h
less_has_one false true a x z xs ys ka kb apart h f = ap (λ (y : Bool). y || lists_actor ys z) kb
less_has_one false false a x z xs ys ka kb apart h f = ap (λ (y : Bool). y || lists_actor ys z) kb ∙ f h

less_has : (a z : Actor) (ys : List Actor) → z ≢ a → lists_actor ys z ≡ true → lists_actor (less a ys) z ≡ true
unfolding less
less_has a z [] apart h = h
less_has a z (x ∷ xs) apart h = less_has_one (same_actor x a) (same_actor x z) a x z xs (less a xs) refl refl apart h (less_has a z xs apart)

not_here : (x z : Actor) (xs : List Actor) → lists_actor xs x ≡ false → lists_actor xs z ≡ true → z ≢ x
not_here x z xs out inn e = true≢false (sym inn ∙ ap (lists_actor xs) e ∙ out)

-- distinct actors that all stand in ys are no more than ys has
no_more : (xs ys : List Actor) → are_apart xs ≡ true → ((z : Actor) → lists_actor xs z ≡ true → lists_actor ys z ≡ true) → length xs ≤ length ys
no_more [] ys d sub = omega arith
no_more (x ∷ xs) ys d sub =
    let here : lists_actor ys x ≡ true = sub x (named_first x xs) in
    let out = not_true (lists_actor xs x) (are_apart xs) d in
    let l = less_length x ys here in
    let ih = no_more xs (less x ys) (and_true (lists_actor xs x) (are_apart xs) d) (λ z h. less_has x z ys (not_here x z xs out h) (sub z (or_later (same_actor x z) (lists_actor xs z) h))) in
    omega arith

-- as many distinct actors as ys has, which all stand in ys, are all of ys
pub covers : (xs ys : List Actor) (a : Actor) → are_apart xs ≡ true → ((z : Actor) → lists_actor xs z ≡ true → lists_actor ys z ≡ true) → length ys ≤ length xs → lists_actor ys a ≡ true → lists_actor xs a ≡ true
covers xs ys a d sub long inn = case (lists_actor xs a) refl
  where
    case : (b : Bool) → lists_actor xs a ≡ b → lists_actor xs a ≡ true
    case true e = e
    case false e =
        let l = less_length a ys inn in
        let m = no_more xs (less a ys) d (λ z h. less_has a z ys (not_here a z xs e h) (sub z h)) in
        absurd (omega arith)

named_one : (P : Actor → Type 0) (b c : Bool) (x z : Actor) → same_actor x z ≡ b → P x → (b || c) ≡ true → (c ≡ true → P z) → P z
named_one P true c x z e h k f = subst P (same_is x z e) h
named_one P false c x z e h k f = f k

-- what is so of each is so of each that stands there
all_named : (P : Actor → Type 0) (xs : List Actor) (z : Actor) → AllByRecursion P xs → lists_actor xs z ≡ true → P z
all_named P [] z h k = absurd (true≢false (sym k))
all_named P (x ∷ xs) z h k = named_one P (same_actor x z) (lists_actor xs z) x z refl h.0 k (all_named P xs z h.1)

-- the servers at places below n, and the clients of numbers up to n
abbrev servers : ℕ → List Actor
servers zero = []
servers (suc n) = Server n ∷ servers n

abbrev clients : ℕ → List Actor
clients zero = []
clients (suc n) = Client (suc n) ∷ clients n

in_servers : (n k : ℕ) (rest : List Actor) → k < n → lists_actor (servers n ++ rest) (Server k) ≡ true
in_servers zero k rest h = absurd (omega arith)
in_servers (suc n) k rest h = ⊎_elim
    (λ (e : (eqb n k ≡ true) × (n ≡ k)). ap (λ (b : Bool). b || lists_actor (servers n ++ rest) (Server k)) e.0)
    (λ (e : (eqb n k ≡ false) × (n ≢ k)). or_later (eqb n k) (lists_actor (servers n ++ rest) (Server k)) (in_servers n k rest (below n k h e.1)))
    (eqb_tells n k)
  where
    below : (n k : ℕ) → k < suc n → n ≢ k → k < n
    below n k h apart = omega arith

in_clients : (n k : ℕ) → 1 ≤ k → k ≤ n → lists_actor (clients n) (Client k) ≡ true
in_clients zero k l h = absurd (omega arith)
in_clients (suc n) k l h = ⊎_elim
    (λ (e : (eqb (suc n) k ≡ true) × (suc n ≡ k)). ap (λ (b : Bool). b || lists_actor (clients n) (Client k)) e.0)
    (λ (e : (eqb (suc n) k ≡ false) × (suc n ≢ k)). or_later (eqb (suc n) k) (lists_actor (clients n) (Client k)) (in_clients n k l (below n k h e.1)))
    (eqb_tells (suc n) k)
  where
    below : (n k : ℕ) → k ≤ suc n → suc n ≢ k → k ≤ n
    below n k h apart = omega arith

in_all : (z : Actor) → IsActor z → lists_actor (servers 5 ++ clients 64) z ≡ true
in_all (Server k) h = in_servers 5 k (clients 64) h
in_all (Client k) h = in_clients 64 k h.0 h.1

-- distinct actors are no more than there are
few : (actors : List Actor) → AllByRecursion IsActor actors → are_apart actors ≡ true → length actors ≤ 69
few actors known apart = no_more actors (servers 5 ++ clients 64) apart (λ z h. in_all z (all_named IsActor actors z known h))

-- the same, known of the actors once nothing is left of them
pub few_at_end : (actors rest : List Actor) → (AllByRecursion IsActor rest → AllByRecursion IsActor actors) → are_apart actors ≡ are_apart rest → length rest ≡ 0 → length actors ≤ 69
few_at_end actors [] known apart e = few actors (known tt) apart
few_at_end actors (x ∷ xs) known apart e = absurd (omega arith)
