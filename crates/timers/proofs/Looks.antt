-- What is seen for long enough was seen at each look of that time.
use Rattle.std.proofs.Common.{◌≡◌, ◌∙◌, ℕ, zero, ◌+◌, ◌≤◌, ◌<◌, nat_eq, nat_lt, ◌&&◌, ◌||◌, Bool, true, false, cond, leb, List, [], ◌∷◌, refl, sym, ap, subst, arith}
use Rattle.std.proofs.lemmas.Bool.{eqb-true, leb-true}
use Rattle.rows.specs.declared.evaluation.EvalId.{EvalId}
use Rattle.rows.specs.declared.token.Token.{Token}
use Rattle.timers.specs.declared.watch.Sighting.{Sighting}
use Rattle.timers.specs.declared.watch.Sighting.TheVariants.{Node, Delivery}
use Rattle.timers.specs.declared.watch.Watched.{Watched}
use Rattle.timers.specs.Watches.{IsSeenThatLong, Look, is_long, is_same, is_seen, seen_for, so_long, unbroken, watch_all, watched_after}

first_of : (a b : Bool) → (a && b) ≡ true → a ≡ true
first_of true b e = refl
first_of false b e = absurd cc

second_of : (a b : Bool) → (a && b) ≡ true → b ≡ true
second_of true b e = e
second_of false b e = absurd cc

same_eval : (e f : EvalId) → e.index ≡ f.index → e.slot ≡ f.slot → e ≡ f
same_eval e f a b = ap (λ n. record e { index = n }) a ∙ ap (λ n. record f { slot = n }) b

same_token : (t u : Token) → t.term ≡ u.term → t.serial ≡ u.serial → t ≡ u
same_token t u a b = ap (λ n. record t { term = n }) a ∙ ap (λ n. record u { serial = n }) b

-- what is told as the same is the same
pub same_is : (other what : Sighting) → is_same other what ≡ true → other ≡ what
same_is (Node n b) (Node m c) e =
    let one : n ≡ m = eqb-true n m (first_of (nat_eq n m) (nat_eq b c) e) in
    let two : b ≡ c = eqb-true b c (second_of (nat_eq n m) (nat_eq b c) e) in
    ap (λ k. Node k b) one ∙ ap (λ k. Node m k) two
same_is (Delivery e t) (Delivery f u) is =
    let slots = nat_eq e.slot f.slot in
    let terms = nat_eq t.term u.term in
    let serials = nat_eq t.serial u.serial in
    let rest = second_of (nat_eq e.index f.index) (slots && (terms && serials)) is in
    let tokens = second_of slots (terms && serials) rest in
    let eval : e ≡ f = same_eval e f (eqb-true e.index f.index (first_of (nat_eq e.index f.index) (slots && (terms && serials)) is)) (eqb-true e.slot f.slot (first_of slots (terms && serials) rest)) in
    let token : t ≡ u = same_token t u (eqb-true t.term u.term (first_of terms serials tokens)) (eqb-true t.serial u.serial (second_of terms serials tokens)) in
    ap (λ k. Delivery k t) eval ∙ ap (λ k. Delivery f k) token
same_is (Node n b) (Delivery f u) e = absurd cc
same_is (Delivery e t) (Node m c) e' = absurd cc

at_most : (b : Bool) (long : ℕ) → cond b long 0 ≤ long
at_most true long = omega arith
at_most false long = omega arith

-- one that is seen was seen, or is looked for among the others
by_same : (b : Bool) (ms short long bound rest : ℕ) (among : Bool) → (b ≡ true → short ≤ bound) → rest ≤ cond among (ms + bound) 0
    → cond b (short + ms) rest ≤ cond (b || among) (ms + bound) 0
by_same true ms short long bound rest among here there = let low : short ≤ bound = here refl in omega (arith, low)
by_same false ms short long bound rest among here there = there

-- what is seen for a while after a look was seen at it, and at most as long before
scanned : (grace ms earlier : ℕ) (before : List Watched) (what : Sighting) (bound : ℕ) → so_long earlier before what ≤ bound → (seen : List Sighting)
    → so_long ms (watch_all grace earlier before seen) what ≤ cond (is_seen what seen) (ms + bound) 0
scanned grace ms earlier before what bound most [] = omega arith
scanned grace ms earlier before what bound most (one ∷ seen) =
    let long = so_long earlier before one in
    by_same (is_same one what) ms (cond (nat_lt long grace) long 0) long bound (so_long ms (watch_all grace earlier before seen) what) (is_seen what seen)
    (λ e.
    let here : long ≤ bound = subst (λ (x : Sighting). so_long earlier before x ≤ bound) (sym (same_is one what e)) most in
    let least = at_most (nat_lt long grace) long in
    omega (arith, here, least))
    (scanned grace ms earlier before what bound most seen)

pub no_longer : (grace : ℕ) (look : Look) (older : List Look) (what : Sighting) → so_long look.ms (watched_after grace older) what ≤ unbroken what (look ∷ older)
no_longer grace look [] what = omega arith
no_longer grace look (before ∷ older) what = scanned grace look.ms before.ms (watched_after grace older) what (unbroken what (before ∷ older)) (no_longer grace before older what) before.seen

pub seen_that_long : (grace : ℕ) (look : Look) (older : List Look) (what : Sighting) → IsSeenThatLong grace look older what
seen_that_long grace look older what long =
    let least = leb-true grace (so_long look.ms (watched_after grace older) what) long in
    let most = no_longer grace look older what in
    omega (arith, least, most)
