-- What is kept of a plan's places is no more than its places.
use Rattle.std.proofs.Common.{◌≡◌, ℕ, ◌+◌, ◌≤◌, suc, Bool, true, false, cond, ◌&&◌, List, [], ◌∷◌, length, filter, Option, Some, None, is_some, ap, sym, subst, ◌∙◌, arith, length-append}
use Rattle.std.specs.Prelude.{nat_eq, nat_lt, filter_map}
use Rattle.std.specs.List.{cons_option, list_all}
use Rattle.rows.specs.declared.job.Job.{Job}
use Rattle.rows.specs.declared.node.Node.{Node}
use Rattle.rows.specs.declared.plan.Place.{Place}
use Rattle.rows.specs.declared.plan.Plan.{Plan}
use Rattle.rows.specs.declared.command.AcceptedPlace.{AcceptedPlace}
use Rattle.fsm_model.specs.Words.{State, node_of}
use Rattle.fsm_tables.specs.Claims.{Claim}
use Rattle.group_model.specs.Acceptance.{Accepted, sized_on, bears, on, kept_where, with_kept, claimed, keep_places, keep_upto}
use Rattle.plan_apply.specs.Inner.Overlay.{all_sized}

-- the places past a number
abbrev pub places_past : ℕ → List Place → List Place
places_past n ks = filter (λ (k : Place). nat_lt n k.node) ks

split_node : (n m : ℕ) (x : ℕ) → cond (nat_lt n m) 1 0 + x ≡ cond (nat_eq m (n + 1)) 1 0 + cond (nat_lt (n + 1) m) 1 0 + x
split_node n m x = grind arith

counted_one : {A : Type 0} (b : Bool) (x : A) (xs : List A) → length (cond b (x ∷ xs) xs) ≡ cond b 1 0 + length xs
counted_one true x xs = omega arith
counted_one false x xs = omega arith

pub split_places : (n : ℕ) (ks : List Place) → length (places_past n ks) ≡ length (on (n + 1) ks) + length (places_past (n + 1) ks)
split_places n [] = omega arith
split_places n (k ∷ ks) =
    let rest : length (places_past n ks) ≡ length (on (n + 1) ks) + length (places_past (n + 1) ks) = split_places n ks in
    let a = counted_one (nat_lt n k.node) k (places_past n ks) in
    let b = counted_one (nat_eq k.node (n + 1)) k (on (n + 1) ks) in
    let d = counted_one (nat_lt (n + 1) k.node) k (places_past (n + 1) ks) in
    let e = split_node n k.node 0 in
    omega (arith, rest, a, b, d, e)

pub all_places : (n : ℕ) (ks : List Place) → length (places_past n ks) ≤ length ks
all_places n [] = omega arith
all_places n (k ∷ ks) =
    let rest : length (places_past n ks) ≤ length ks = all_places n ks in
    elim (nat_lt n k.node) as (λ b. length (cond b (k ∷ places_past n ks) (places_past n ks)) ≤ suc (length ks)) [ true ↦ omega (arith, rest) | false ↦ omega (arith, rest) ]

few_one : {A B : Type 0} (o : Option B) (f : A → Option B) (xs : List A) → length (filter_map f xs) ≤ length xs → length (cons_option o (filter_map f xs)) ≤ suc (length xs)
few_one None f xs le = omega (arith, le)
few_one (Some y) f xs le = omega (arith, le)

pub few_mapped : {A B : Type 0} (f : A → Option B) (xs : List A) → length (filter_map f xs) ≤ length xs
few_mapped f [] = omega arith
few_mapped f (x ∷ xs) = few_one (f x) f xs (few_mapped f xs)

few_whole : (b : Bool) (ks : List Place) (ms more : List AcceptedPlace) → length ms ≤ length ks → cond b (Some ms) None ≡ Some more → length more ≤ length ks
few_whole true ks ms more le e = let same : ms ≡ more = cc in subst (λ (zs : List AcceptedPlace). length zs ≤ length ks) same le
few_whole false ks ms more le e = absurd cc

pub few_sized : (j : Job) (n : Node) (ks : List Place) (more : List AcceptedPlace) → all_sized j n ks ≡ Some more → length more ≤ length ks
few_sized j n ks more e = few_whole (list_all (λ k. is_some (sized_on j n k)) ks) ks (filter_map (sized_on j n) ks) more (few_mapped (sized_on j n) ks) e

few_with : (n : ℕ) (a : Accepted) (ks : List Place) (b : Bool) (ms : List AcceptedPlace) → length ms ≤ length ks → length (with_kept n a (cond b (Some ms) None)).places ≤ length a.places + length ks
few_with n a ks true ms le = let size = length-append a.places ms in omega (arith, le, size)
few_with n a ks false ms le = omega (arith, le)

few_where : (j : Job) (cs : List Claim) (a : Accepted) (n : ℕ) (ks : List Place) (o : Option Node) → length (with_kept n a (kept_where j cs ks o)).places ≤ length a.places + length ks
few_where j cs a n ks None = omega arith
few_where j cs a n ks (Some r) = few_with n a ks (list_all (λ k. is_some (sized_on j r k)) ks && bears j.name cs r (filter_map (sized_on j r) ks)) (filter_map (sized_on j r) ks) (few_mapped (sized_on j r) ks)

-- what a node keeps is no more than its places
pub few_more : (s : State) (j : Job) (n : ℕ) (a : Accepted) (ks : List Place) → length (keep_places s j n a ks).places ≤ length a.places + length ks
few_more s j n a [] = omega arith
few_more s j n a (k ∷ ks) = few_where j (claimed s j.name a) a n (k ∷ ks) (node_of n s)

-- one node more
pub next_number : (s : State) (j : Job) (p : Plan) (a : Accepted) (n : ℕ) → keep_upto s j p a (n + 1) ≡ keep_places s j (n + 1) (keep_upto s j p a n) (on (n + 1) p.places)
next_number s j p a n =
    let e : n + 1 ≡ suc n = omega arith in
    ap (keep_upto s j p a) e ∙ sym (ap (λ (m : ℕ). keep_places s j m (keep_upto s j p a n) (on m p.places)) e)
