-- When the state after a plan is safe, told by what the plan stops and places: each node's use, and
-- the names.
use Rattle.std.proofs.Common.{◌≡◌, ℕ, ◌+◌, ◌<◌, ◌≤◌, Bool, true, false, cond, not, ◌&&◌, ◌||◌, T, List, [], ◌∷◌, ◌++◌, length, map, refl, sym, ap, subst, ◌∙◌, arith, ◌⊎◌, inl, inr}
use Rattle.std.specs.Prelude.{sum_by, nat_lt}
use Rattle.std.specs.List.{AllByRecursion, list_any}
use Rattle.std.specs.Cmp.{nat_cmp_is}
use Rattle.std.specs.Ordering.{nat_cmp, ordering_then}
use Rattle.std.specs.declared.cmp.Ordering.TheVariants.{Equal, Greater}
use Rattle.std.proofs.lemmas.List.{length-append, append_assoc, append-nil, length-map}
use Rattle.std.proofs.lemmas.List.Folds.{list_any-append}
use Rattle.std.proofs.lemmas.List.Sums.{sum_by-append}
use Rattle.rows.specs.declared.allocation.AllocId.{AllocId}
use Rattle.rows.specs.declared.allocation.Desired.TheVariants as desires
use Rattle.rows.specs.declared.allocation.Allocation.{Allocation}
use Rattle.rows.specs.declared.command.AcceptedPlace.{AcceptedPlace}
use Rattle.rows.specs.declared.command.AcceptedPlan.{AcceptedPlan}
use Rattle.rows.specs.Keys.{alloc_cmp, alloc_id}
use Rattle.rows.specs.Fits.{AcceptedPlaceFits}
use Rattle.fsm_tables.specs.Rows.{has_row, put, put_within, by_order}
use Rattle.fsm_tables.proofs.RowLaws.{both, first, second}
use Rattle.fsm_tables.specs.Claims.{Claim, claim_of, claims, is_live, is_wanted}
use Rattle.fsm_model.specs.Words.{State, same_alloc}
use Rattle.fsm_model.specs.Safe.{same_name, are_distinct, are_safe, is_safe}
use Rattle.fsm_model.proofs.SafeLaws.{Fewer, nothing, kept, gone, Releases, released, stop_releases, fewer_distinct, kept_safe, with_room_keeps, distinct_of}
use Rattle.fsm_model.specs.Plans.{ended, kept_claims, place_claim, wanted, are_free, are_dated, PlanIsSafe, IsAskable}
use Rattle.fsm_model.proofs.UseLaws.{Counts, number_fits, safe_by_numbers, low_numbers, all_count, kept_numbers, released_sum}
use Rattle.fsm_model.proofs.Lists.{and_true}
use Rattle.fsm_model.specs.Effect.{with_next_count, stop, frees, with_room, alloc_row, with_places, planned}

-- ---- words

below : (a b : ℕ) → T (nat_lt a b) → a < b
below a b h = grind arith

-- ---- places are put behind all rows

abbrev pub new_rows : ℕ → ℕ → AcceptedPlan → List AcceptedPlace → List Allocation
new_rows x slot p [] = []
new_rows x slot p (k ∷ ks) = alloc_row x slot p k ∷ new_rows x (slot + 1) p ks

-- the row's id is below (x, slot)
abbrev Before : ℕ → ℕ → Allocation → Type 0
Before x slot a = (a.id.index < x) ⊎ ((a.id.index ≡ x) × (a.id.slot < slot))

is_greater : (x y : ℕ) → y < x → nat_cmp x y ≡ Greater
is_greater x y lt = sym (nat_cmp_is x y Greater lt)

is_equal : (x y : ℕ) → x ≡ y → nat_cmp x y ≡ Equal
is_equal x y e = sym (nat_cmp_is x y Equal e)

before_cmp : (x slot : ℕ) (a : Allocation) → Before x slot a → alloc_cmp (record { index = x; slot = slot }) a.id ≡ Greater
before_cmp x slot a (inl lt) = ap (λ r. ordering_then r (nat_cmp slot a.id.slot)) (is_greater x a.id.index lt)
before_cmp x slot a (inr h) = ap (λ r. ordering_then r (nat_cmp slot a.id.slot)) (is_equal x a.id.index (sym h.0)) ∙ is_greater slot a.id.slot h.1

put_last : (x slot : ℕ) (a : Allocation) (rows : List Allocation) → a.id ≡ record { index = x; slot = slot } → AllByRecursion (Before x slot) rows → put alloc_cmp alloc_id a rows ≡ rows ++ a ∷ []
put_last x slot a [] e h = refl
put_last x slot a (b ∷ rows) e h =
    ap (λ r. by_order r (a ∷ b ∷ rows) (a ∷ rows) (b ∷ put alloc_cmp alloc_id a rows)) (ap (λ k. alloc_cmp k b.id) e ∙ before_cmp x slot b h.0)
    ∙ ap (λ zs. b ∷ zs) (put_last x slot a rows e h.1)

still_before : (x slot : ℕ) (a : Allocation) → Before x slot a → Before x (slot + 1) a
still_before x slot a (inl lt) = inl lt
still_before x slot a (inr h) = let below : a.id.slot < slot = h.1 in inr (h.0, omega arith)

all_before : (x slot : ℕ) (rows : List Allocation) (a : Allocation) → AllByRecursion (Before x slot) rows → Before x (slot + 1) a → AllByRecursion (Before x (slot + 1)) (rows ++ a ∷ [])
all_before x slot [] a h b = (b, tt)
all_before x slot (c ∷ rows) a h b = (still_before x slot c h.0, all_before x slot rows a h.1 b)

pub has_room : {A : Type 0} (b : Bool) (n most : ℕ) (xs ys : A) → n < most → cond (b || nat_lt n most) xs ys ≡ xs
has_room true n most xs ys lt = refl
has_room false n most xs ys lt = let yes : nat_lt n most ≡ true = grind arith in rw yes refl

places_last : (x slot : ℕ) (p : AcceptedPlan) (ks : List AcceptedPlace) (rows : List Allocation) → AllByRecursion (Before x slot) rows → length rows + length ks ≤ 65536 → with_places x slot p ks rows ≡ rows ++ new_rows x slot p ks
places_last x slot p [] rows h few = sym (append-nil rows)
places_last x slot p (k ∷ ks) rows h few =
    let a = alloc_row x slot p k in
    let here : put_within alloc_cmp alloc_id 65536 a rows ≡ rows ++ a ∷ [] =
    has_room (has_row alloc_cmp alloc_id a.id rows) (length rows) 65536 (put alloc_cmp alloc_id a rows) rows (omega (arith, few)) ∙ put_last x slot a rows refl h in
    let size : length (rows ++ a ∷ []) ≡ length rows + 1 = length-append rows (a ∷ []) in
    ap (λ zs. with_places x (slot + 1) p ks zs) here
    ∙ places_last x (slot + 1) p ks (rows ++ a ∷ []) (all_before x slot rows a h (inr (refl, omega arith))) (omega (arith, few, size))
    ∙ append_assoc rows (a ∷ []) (new_rows x (slot + 1) p ks)

-- ---- claims of rows put together

claims-append : (xs ys : List Allocation) → claims (xs ++ ys) ≡ claims xs ++ claims ys
claims-append [] ys = refl
claims-append (a ∷ xs) ys =
    ap (λ zs. cond (is_live a) (claim_of a ∷ zs) zs) (claims-append xs ys)
    ∙ elim (is_live a) as (λ b. cond b (claim_of a ∷ (claims xs ++ claims ys)) (claims xs ++ claims ys) ≡ cond b (claim_of a ∷ claims xs) (claims xs) ++ claims ys) [ true ↦ refl | false ↦ refl ]

new_claims : (x slot : ℕ) (p : AcceptedPlan) (ks : List AcceptedPlace) → claims (new_rows x slot p ks) ≡ map (place_claim p) ks
new_claims x slot p [] = refl
new_claims x slot p (k ∷ ks) = ap (λ cs. place_claim p k ∷ cs) (new_claims x (slot + 1) p ks)

dated_before : (x : ℕ) (rows : List Allocation) → T (are_dated x rows) → AllByRecursion (Before x 0) rows
dated_before x [] h = tt
dated_before x (a ∷ rows) h = (inl (below a.id.index x (first _ _ h)), dated_before x rows (second _ _ h))

pub stop_id : (ids : List AllocId) (a : Allocation) → (stop ids a).id ≡ a.id
stop_id ids a = elim (list_any (same_alloc a.id) ids && is_wanted a.desired) as (λ b. (cond b (record a { desired = desires.Stop }) a).id ≡ a.id) [ true ↦ refl | false ↦ refl ]

stop_dated : (x : ℕ) (ids : List AllocId) (rows : List Allocation) → T (are_dated x rows) → T (are_dated x (map (stop ids) rows))
stop_dated x ids [] h = tt
stop_dated x ids (a ∷ rows) h = both _ _ (subst (λ k. T (nat_lt k.index x)) (sym (stop_id ids a)) (first _ _ h)) (stop_dated x ids rows (second _ _ h))

-- what is claimed after a plan: what it keeps, and then what it wants
pub claims_planned : (p : AcceptedPlan) (s : State) → T (are_dated (s.count + 1) s.allocs) → length s.allocs + length p.places ≤ 65536 → claims (planned p (with_next_count s)).allocs ≡ kept_claims p s ++ wanted p
claims_planned p s dated few =
    let x = s.count + 1 in
    let rows = map (stop p.stops) s.allocs in
    let size : length rows ≡ length s.allocs = length-map s.allocs (stop p.stops) in
    ap claims (places_last x 0 p p.places rows (dated_before x rows (stop_dated x p.stops s.allocs dated)) (omega (arith, few, size)))
    ∙ claims-append rows (new_rows x 0 p p.places)
    ∙ ap (λ cs. kept_claims p s ++ cs) (new_claims x 0 p p.places)

-- ---- names of claims put together

anys : {A : Type 0} (q : A → Bool) (xs ys : List A) → list_any q (xs ++ ys) ≡ (list_any q xs || list_any q ys)
anys q xs ys = list_any-append q xs ys

sorted_out : (a b c d e : Bool) → (not (a || b) && (c && d && e)) ≡ (not a && c && d && (not b && e))
sorted_out true b c d e = refl
sorted_out false true true true e = refl
sorted_out false true true false e = refl
sorted_out false true false d e = refl
sorted_out false false c d e = refl

pub distinct-append : (cs ds : List Claim) → are_distinct (cs ++ ds) ≡ (are_distinct cs && are_distinct ds && are_free cs ds)
distinct-append [] ds = sym (and_true (are_distinct ds))
distinct-append (c ∷ cs) ds =
    (λ i. not (anys (same_name c) cs ds i) && distinct-append cs ds i)
    ∙ sorted_out (list_any (same_name c) cs) (list_any (same_name c) ds) (are_distinct cs) (are_distinct ds) (are_free cs ds)

-- ---- the state after a plan

three : (a b c : Bool) → T a → T b → T c → T (a && b && c)
three a b c p q r = both (a && b) c (both a b p q) r

pub all_wanted_count : (p : AcceptedPlan) (ks : List AcceptedPlace) → AllByRecursion AcceptedPlaceFits ks → AllByRecursion Counts (map (place_claim p) ks)
all_wanted_count p [] h = tt
all_wanted_count p (k ∷ ks) h = let low = h.0.2.1 in let some = h.0.3.0.0 in ((omega (arith, low), some, h.0.2.0), all_wanted_count p ks h.1)

pub all_append : {A : Type 0} (P : A → Type 0) (xs ys : List A) → AllByRecursion P xs → AllByRecursion P ys → AllByRecursion P (xs ++ ys)
all_append P [] ys g h = h
all_append P (x ∷ xs) ys g h = (g.0, all_append P xs ys g.1 h)

fewer_claims : (P : Claim → Type 0) (xs ys : List Claim) → Fewer xs ys → AllByRecursion P ys → AllByRecursion P xs
fewer_claims P _ _ nothing h = tt
fewer_claims P _ _ (kept x xs ys f) h = (h.0, fewer_claims P xs ys f h.1)
fewer_claims P _ _ (gone y xs ys f) h = fewer_claims P xs ys f h.1

pub planned_count : (p : AcceptedPlan) (s : State) → IsAskable p s → AllByRecursion Counts (kept_claims p s ++ wanted p)
planned_count p s a = all_append Counts (kept_claims p s) (wanted p)
    (fewer_claims Counts (kept_claims p s) (claims s.allocs) (released (stop p.stops) (stop_releases p.stops) s.allocs) (all_count s.allocs a.allocs))
    (all_wanted_count p p.places a.places)

pub plan_is_safe : (p : AcceptedPlan) (s : State) → IsAskable p s → PlanIsSafe p s → T (is_safe (planned p (with_next_count s)))
plan_is_safe p s a h =
    let apart = subst T (sym (distinct-append (kept_claims p s) (wanted p))) (three _ _ _ h.kept_distinct h.wanted_distinct h.free) in
    let safe = safe_by_numbers s.nodes (kept_claims p s ++ wanted p) a.rising (low_numbers s.nodes a.nodes) (planned_count p s a) h.fit apart in
    subst (λ cs. T (are_safe (map (with_room (frees (stop p.stops) s.allocs) (s.count + 1)) s.nodes) cs)) (sym (claims_planned p s a.dated a.few))
    (kept_safe (with_room (frees (stop p.stops) s.allocs) (s.count + 1)) (with_room_keeps (frees (stop p.stops) s.allocs) (s.count + 1)) s.nodes (kept_claims p s ++ wanted p) safe)

pub safe_is_plan : (p : AcceptedPlan) (s : State) → IsAskable p s → T (is_safe (planned p (with_next_count s))) → PlanIsSafe p s
safe_is_plan p s a h =
    let g = with_room (frees (stop p.stops) s.allocs) (s.count + 1) in
    let safe : T (are_safe (map g s.nodes) (kept_claims p s ++ wanted p)) = subst (λ cs. T (are_safe (map g s.nodes) cs)) (claims_planned p s a.dated a.few) h in
    let apart : T (are_distinct (kept_claims p s) && are_distinct (wanted p) && are_free (kept_claims p s) (wanted p)) = subst T (distinct-append (kept_claims p s) (wanted p)) (distinct_of (map g s.nodes) (kept_claims p s ++ wanted p) safe) in
    let front = first (are_distinct (kept_claims p s) && are_distinct (wanted p)) (are_free (kept_claims p s) (wanted p)) apart in
    record {
      fit = λ n lt. kept_numbers g (with_room_keeps (frees (stop p.stops) s.allocs) (s.count + 1)) s.nodes (kept_claims p s ++ wanted p) n (number_fits (map g s.nodes) (kept_claims p s ++ wanted p) safe n);
      kept_distinct = first (are_distinct (kept_claims p s)) (are_distinct (wanted p)) front;
      wanted_distinct = second (are_distinct (kept_claims p s)) (are_distinct (wanted p)) front;
      free = second (are_distinct (kept_claims p s) && are_distinct (wanted p)) (are_free (kept_claims p s) (wanted p)) apart;
    }

-- what is distinct stays so under a change of rows that claims nothing
pub distinct_mapped : (f : Allocation → Allocation) → Releases f → (rows : List Allocation) → T (are_distinct (claims rows)) → T (are_distinct (claims (map f rows)))
distinct_mapped f r rows h = fewer_distinct (claims (map f rows)) (claims rows) (released f r rows) h

-- so of a state in which names are distinct, the plan has to be looked at alone
pub kept_is_distinct : (p : AcceptedPlan) (s : State) → T (are_distinct (claims s.allocs)) → T (are_distinct (kept_claims p s))
kept_is_distinct p s h = distinct_mapped (stop p.stops) (stop_releases p.stops) s.allocs h

-- the node's use after a plan: with what the plan ends it is the present use, with what it wants
pub used_planned : (w : Claim → ℕ) (p : AcceptedPlan) (s : State) → sum_by w (kept_claims p s ++ wanted p) + sum_by w (ended (stop p.stops) s.allocs) ≡ sum_by w (claims s.allocs) + sum_by w (wanted p)
used_planned w p s =
    let all = sum_by-append w (kept_claims p s) (wanted p) in
    let rest : sum_by w (kept_claims p s) + sum_by w (ended (stop p.stops) s.allocs) ≡ sum_by w (claims s.allocs) = released_sum w (stop p.stops) (stop_releases p.stops) s.allocs in
    omega (arith, all, rest)
