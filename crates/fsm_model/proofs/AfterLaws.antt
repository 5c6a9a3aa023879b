-- When the state after a plan is safe, on every state: also where a row stands under an id that the
-- plan makes, which only a loaded text can have. What is claimed then are, in some order, the
-- claims of what the plan neither stops nor replaces, and what it wants.
use Rattle.std.proofs.Common.{◌≡◌, ℕ, ◌+◌, ◌≤◌, Bool, true, false, cond, not, ◌&&◌, T, List, [], ◌∷◌, ◌++◌, length, map, Some, None, refl, sym, ap, subst, ◌∙◌, arith, suc}
use Rattle.std.specs.Prelude.{sum_by, nat_eq, nat_le, nat_lt}
use Rattle.std.specs.List.{AllByRecursion}
use Rattle.std.specs.Cmp.{IsTotalOrder}
use Rattle.std.specs.Ordering.{nat_cmp, is_eq}
use Rattle.std.specs.declared.cmp.Ordering.{Ordering}
use Rattle.std.specs.declared.cmp.Ordering.TheVariants.{Less, Equal, Greater}
use Rattle.std.proofs.lemmas.List.{length-map}
use Rattle.std.proofs.lemmas.List.Sums.{sum_by-cons, sum_by-append}
use Rattle.rows.specs.declared.allocation.AllocId.{AllocId}
use Rattle.rows.specs.declared.allocation.Allocation.{Allocation}
use Rattle.rows.specs.declared.command.AcceptedPlace.{AcceptedPlace}
use Rattle.rows.specs.declared.command.AcceptedPlan.{AcceptedPlan}
use Rattle.rows.specs.Keys.{alloc_cmp, alloc_id, node_number}
use Rattle.rows.specs.Fits.{AllocationFits, AcceptedPlaceFits}
use Rattle.rows.specs.Rising.{is_rising}
use Rattle.fsm_tables.specs.Rows.{row_of, has_row, put, put_within}
use Rattle.fsm_tables.proofs.RowLaws.{first, second, none_below, below_tied, rising_put, rising_mapped, length-put, sum_by-put}
use Rattle.fsm_tables.specs.Inner.Sums.{weight_of, weight}
use Rattle.fsm_tables.proofs.Uses.{same_use}
use Rattle.fsm_tables.specs.Claims.{Claim, claim_of, claims, on_node, is_live}
use Rattle.fsm_model.specs.Words.{State, same_alloc}
use Rattle.rows.specs.Sizes.{fits}
use Rattle.fsm_model.specs.Safe.{is_safe}
use Rattle.fsm_model.specs.Effect.{with_next_count, stop, frees, with_room, alloc_row, with_places, planned}
use Rattle.rows.proofs.KeyLaws.{alloc_cmp_total}
use Rattle.fsm_model.proofs.SafeLaws.{stop_releases, kept_safe, with_room_keeps, distinct_of}
use Rattle.fsm_model.specs.Plans.{room_of, place_claim, wanted, is_made, left, left_by, AfterIsSafe, FitsWhereAsked}
use Rattle.fsm_model.proofs.UseLaws.{Counts, number_fits, safe_by_numbers, low_numbers, kept_numbers}
use Rattle.fsm_model.proofs.NameLaws.{distinct_same}
use Rattle.fsm_model.proofs.RangeLaws.{all_within, all_mapped}
use Rattle.fsm_model.proofs.Lists.{and_true, and_false}
use Rattle.fsm_model.proofs.Keys.{at_alloc}
use Rattle.fsm_model.proofs.PlanLaws.{has_room, stop_id}

-- what a live row adds, but for those
abbrev pub left_weight : (Claim → ℕ) → ℕ → ℕ → ℕ → Allocation → ℕ
left_weight w x slot n a = cond (is_live a && not (is_made x slot n a)) (w (claim_of a)) 0

-- ---- sums

pub sums_same : {A : Type 0} (f g : A → ℕ) → ((x : A) → f x ≡ g x) → (xs : List A) → sum_by f xs ≡ sum_by g xs
sums_same f g h xs = λ i. sum_by (λ x. h x i) xs

pub sums_two : {A : Type 0} (f g : A → ℕ) (xs : List A) → sum_by (λ x. f x + g x) xs ≡ sum_by f xs + sum_by g xs
sums_two f g [] = omega arith
sums_two f g (x ∷ xs) =
    let rest : sum_by (λ x. f x + g x) xs ≡ sum_by f xs + sum_by g xs = sums_two f g xs in
    omega (arith, rest, sum_by-cons (λ x. f x + g x) x xs, sum_by-cons f x xs, sum_by-cons g x xs)

sums_mapped : {A B : Type 0} (f : B → ℕ) (g : A → B) (xs : List A) → sum_by f (map g xs) ≡ sum_by (λ x. f (g x)) xs
sums_mapped f g [] = refl
sums_mapped f g (x ∷ xs) =
    let rest : sum_by f (map g xs) ≡ sum_by (λ x. f (g x)) xs = sums_mapped f g xs in
    omega (arith, rest, sum_by-cons f (g x) (map g xs), sum_by-cons (λ x. f (g x)) x xs)

module _ {K X : Type 0} (R : K → K → Ordering) (key : X → K) (o : IsTotalOrder R) where
  none_sum : (u : X → ℕ) (k : K) (ys : List X) → row_of R key k ys ≡ None → sum_by (λ y. cond (is_eq (R k (key y))) (u y) 0) ys ≡ 0
  none_sum u k [] e = refl
  none_sum u k (y ∷ ys) e =
      sum_by-cons (λ y. cond (is_eq (R k (key y))) (u y) 0) y ys
      ∙ elim (is_eq (R k (key y))) as (λ b. cond b (Some y) (row_of R key k ys) ≡ None → cond b (u y) 0 + sum_by (λ y. cond (is_eq (R k (key y))) (u y) 0) ys ≡ 0) [
        | true ↦ λ e. absurd cc
        | false ↦ λ e. let rest : sum_by (λ y. cond (is_eq (R k (key y))) (u y) 0) ys ≡ 0 = none_sum u k ys e in omega arith
      ] e

  -- the sum over the row of a key
  pub sum_at : (u : X → ℕ) (k : K) (ys : List X) → T (is_rising R key ys) → sum_by (λ y. cond (is_eq (R k (key y))) (u y) 0) ys ≡ weight_of u (row_of R key k ys)
  sum_at u k [] h = refl
  sum_at u k (y ∷ ys) h =
      sum_by-cons (λ y. cond (is_eq (R k (key y))) (u y) 0) y ys
      ∙ elim (R k (key y)) as (λ q. R k (key y) ≡ q → cond (is_eq q) (u y) 0 + sum_by (λ y. cond (is_eq (R k (key y))) (u y) 0) ys ≡ weight_of u (cond (is_eq q) (Some y) (row_of R key k ys))) [
        | Less ↦ λ e. let rest : sum_by (λ y. cond (is_eq (R k (key y))) (u y) 0) ys ≡ weight_of u (row_of R key k ys) = sum_at u k ys (second _ _ h) in omega arith
        | Equal ↦ λ e. let rest : sum_by (λ y. cond (is_eq (R k (key y))) (u y) 0) ys ≡ 0 = none_sum u k ys (none_below R key o k ys (below_tied R key o k (key y) ys e (first _ _ h))) in omega arith
        | Greater ↦ λ e. let rest : sum_by (λ y. cond (is_eq (R k (key y))) (u y) 0) ys ≡ weight_of u (row_of R key k ys) = sum_at u k ys (second _ _ h) in omega arith
      ] refl

-- ---- one place after the other

slots_step : (k slot n : ℕ) → nat_eq k slot ≡ false → (nat_le slot k && nat_lt k (slot + suc n)) ≡ (nat_le (slot + 1) k && nat_lt k (slot + 1 + n))
slots_step k slot n e = grind arith

first_slot : (k slot n : ℕ) → nat_eq k slot ≡ true → (nat_le slot k && nat_lt k (slot + suc n)) ≡ true
first_slot k slot n e = grind arith

made_apart : (i x k slot n : ℕ) → (nat_eq i x && nat_eq k slot) ≡ false → (nat_eq i x && (nat_le slot k && nat_lt k (slot + suc n))) ≡ (nat_eq i x && (nat_le (slot + 1) k && nat_lt k (slot + 1 + n)))
made_apart i x k slot n e = elim (nat_eq i x) as (λ b. (b && nat_eq k slot) ≡ false → (b && (nat_le slot k && nat_lt k (slot + suc n))) ≡ (b && (nat_le (slot + 1) k && nat_lt k (slot + 1 + n)))) [
  | true ↦ λ e. slots_step k slot n e
  | false ↦ λ e. refl
] e

made_here : (i x k slot n : ℕ) → (nat_eq i x && nat_eq k slot) ≡ true → (nat_eq i x && (nat_le slot k && nat_lt k (slot + suc n))) ≡ true
made_here i x k slot n e = elim (nat_eq i x) as (λ b. (b && nat_eq k slot) ≡ true → (b && (nat_le slot k && nat_lt k (slot + suc n))) ≡ true) [
  | true ↦ λ e. first_slot k slot n e
  | false ↦ λ e. absurd cc
] e

none_if : (b : Bool) (n : ℕ) → cond (b && false) n 0 ≡ 0
none_if true n = refl
none_if false n = refl

left_step : (w : Claim → ℕ) (x slot n : ℕ) (a : Allocation) → left_weight w x (slot + 1) n a ≡ left_weight w x slot (suc n) a + cond (is_eq (alloc_cmp (record { index = x; slot = slot }) a.id)) (left_weight w x (slot + 1) n a) 0
left_step w x slot n a =
    let id : AllocId = record { index = x; slot = slot } in
    elim (same_alloc a.id id) as (λ b. same_alloc a.id id ≡ b → left_weight w x (slot + 1) n a ≡ left_weight w x slot (suc n) a + cond (is_eq (alloc_cmp id a.id)) (left_weight w x (slot + 1) n a) 0) [
      | true ↦ λ e.
          let none : left_weight w x slot (suc n) a ≡ 0 = ap (λ b. cond (is_live a && not b) (w (claim_of a)) 0) (made_here a.id.index x a.id.slot slot n e) ∙ none_if (is_live a) (w (claim_of a)) in
          let here : cond (is_eq (alloc_cmp id a.id)) (left_weight w x (slot + 1) n a) 0 ≡ left_weight w x (slot + 1) n a = ap (λ b. cond b (left_weight w x (slot + 1) n a) 0) (at_alloc id a ∙ e) in
          omega (arith, none, here)
      | false ↦ λ e.
          let same : left_weight w x slot (suc n) a ≡ left_weight w x (slot + 1) n a = ap (λ b. cond (is_live a && not b) (w (claim_of a)) 0) (made_apart a.id.index x a.id.slot slot n e) in
          let here : cond (is_eq (alloc_cmp id a.id)) (left_weight w x (slot + 1) n a) 0 ≡ 0 = ap (λ b. cond b (left_weight w x (slot + 1) n a) 0) (at_alloc id a ∙ e) in
          omega (arith, same, here)
    ] refl

past : (slot : ℕ) → nat_le (slot + 1) slot ≡ false
past slot = grind arith

no_slot : (k slot : ℕ) → (nat_le slot k && nat_lt k (slot + 0)) ≡ false
no_slot k slot = grind arith

not_made : (x slot n : ℕ) (p : AcceptedPlan) (k : AcceptedPlace) → is_made x (slot + 1) n (alloc_row x slot p k) ≡ false
not_made x slot n p k = ap (λ b. nat_eq x x && (b && nat_lt slot (slot + 1 + n))) (past slot) ∙ and_false (nat_eq x x)

none_made : (x slot : ℕ) (a : Allocation) → is_made x slot 0 a ≡ false
none_made x slot a = ap (λ b. nat_eq a.id.index x && b) (no_slot a.id.slot slot) ∙ and_false (nat_eq a.id.index x)

grown : (b : Bool) (n : ℕ) → cond b n (n + 1) ≤ n + 1
grown true n = omega arith
grown false n = omega arith

-- the sum over the claims after the places
places_sum : (w : Claim → ℕ) (x slot : ℕ) (p : AcceptedPlan) (ks : List AcceptedPlace) (rows : List Allocation) → T (is_rising alloc_cmp alloc_id rows) → length rows + length ks ≤ 65536
    → sum_by (weight w) (with_places x slot p ks rows) ≡ sum_by (left_weight w x slot (length ks)) rows + sum_by w (map (place_claim p) ks)
places_sum w x slot p [] rows rising few =
    let same : sum_by (weight w) rows ≡ sum_by (left_weight w x slot 0) rows =
    sums_same (weight w) (left_weight w x slot 0) (λ a. ap (λ b. cond b (w (claim_of a)) 0) (sym (ap (λ b. is_live a && not b) (none_made x slot a) ∙ and_true (is_live a)))) rows in
    omega (arith, same)
places_sum w x slot p (k ∷ ks) rows rising few =
    let a = alloc_row x slot p k in
    let n = length ks in
    let u = left_weight w x (slot + 1) n in
    let id : AllocId = record { index = x; slot = slot } in
    let room : put_within alloc_cmp alloc_id 65536 a rows ≡ put alloc_cmp alloc_id a rows = has_room (has_row alloc_cmp alloc_id a.id rows) (length rows) 65536 (put alloc_cmp alloc_id a rows) rows (omega (arith, few)) in
    let size : length (put alloc_cmp alloc_id a rows) ≤ length rows + 1 = subst (λ (m : ℕ). m ≤ length rows + 1) (sym (length-put alloc_cmp alloc_id alloc_cmp_total a rows rising)) (grown (has_row alloc_cmp alloc_id a.id rows) (length rows)) in
    let rest : sum_by (weight w) (with_places x (slot + 1) p ks (put alloc_cmp alloc_id a rows)) ≡ sum_by u (put alloc_cmp alloc_id a rows) + sum_by w (map (place_claim p) ks) =
    places_sum w x (slot + 1) p ks (put alloc_cmp alloc_id a rows) (rising_put alloc_cmp alloc_id alloc_cmp_total a rows rising) (omega (arith, few, size)) in
    let one : sum_by u (put alloc_cmp alloc_id a rows) + weight_of u (row_of alloc_cmp alloc_id id rows) ≡ sum_by u rows + u a = sum_by-put alloc_cmp alloc_id alloc_cmp_total u a rows rising in
    let new : u a ≡ w (place_claim p k) = ap (λ b. cond (not b) (w (place_claim p k)) 0) (not_made x slot n p k) in
    let old : sum_by u rows ≡ sum_by (left_weight w x slot (suc n)) rows + weight_of u (row_of alloc_cmp alloc_id id rows) =
    sums_same u (λ b. left_weight w x slot (suc n) b + cond (is_eq (alloc_cmp id b.id)) (u b) 0) (left_step w x slot n) rows
    ∙ sums_two (left_weight w x slot (suc n)) (λ b. cond (is_eq (alloc_cmp id b.id)) (u b) 0) rows
    ∙ ap (λ (m : ℕ). sum_by (left_weight w x slot (suc n)) rows + m) (sum_at alloc_cmp alloc_id alloc_cmp_total u id rows rising) in
    let front = sum_by-cons w (place_claim p k) (map (place_claim p) ks) in
    ap (λ zs. sum_by (weight w) (with_places x (slot + 1) p ks zs)) room ∙ omega (arith, rest, one, new, old, front)

pub claims_sum : (w : Claim → ℕ) (rows : List Allocation) → sum_by w (claims rows) ≡ sum_by (weight w) rows
claims_sum w [] = refl
claims_sum w (a ∷ rows) =
    let rest : sum_by w (claims rows) ≡ sum_by (weight w) rows = claims_sum w rows in
    elim (is_live a) as (λ b. sum_by w (cond b (claim_of a ∷ claims rows) (claims rows)) ≡ cond b (w (claim_of a)) 0 + sum_by (weight w) rows) [
      | true ↦ omega (arith, rest, sum_by-cons w (claim_of a) (claims rows))
      | false ↦ omega (arith, rest)
    ] ∙ sym (sum_by-cons (weight w) a rows)

left_sum : (w : Claim → ℕ) (x slot n : ℕ) (rows : List Allocation) → sum_by w (left x slot n rows) ≡ sum_by (left_weight w x slot n) rows
left_sum w x slot n [] = refl
left_sum w x slot n (a ∷ rows) =
    let rest : sum_by w (left x slot n rows) ≡ sum_by (left_weight w x slot n) rows = left_sum w x slot n rows in
    elim (is_live a && not (is_made x slot n a)) as (λ b. sum_by w (cond b (claim_of a ∷ left x slot n rows) (left x slot n rows)) ≡ cond b (w (claim_of a)) 0 + sum_by (left_weight w x slot n) rows) [
      | true ↦ omega (arith, rest, sum_by-cons w (claim_of a) (left x slot n rows))
      | false ↦ omega (arith, rest)
    ] ∙ sym (sum_by-cons (left_weight w x slot n) a rows)

-- ---- the state after a plan

-- after a plan each sum over what is claimed is that over what it leaves and what it wants: the
-- same claims, in some order
pub sums_planned : (w : Claim → ℕ) (p : AcceptedPlan) (s : State) → T (is_rising alloc_cmp alloc_id s.allocs) → length s.allocs + length p.places ≤ 65536
    → sum_by w (claims (planned p (with_next_count s)).allocs) ≡ sum_by w (left_by p s ++ wanted p)
sums_planned w p s rising few =
    let rows = map (stop p.stops) s.allocs in
    let size : length rows ≡ length s.allocs = length-map s.allocs (stop p.stops) in
    let all = places_sum w (s.count + 1) 0 p p.places rows (rising_mapped alloc_cmp alloc_id (stop p.stops) (stop_id p.stops) s.allocs rising) (omega (arith, few, size)) in
    let rest = left_sum w (s.count + 1) 0 (length p.places) rows in
    claims_sum w (planned p (with_next_count s)).allocs ∙ all ∙ ap (λ (m : ℕ). m + sum_by w (wanted p)) (sym rest) ∙ sym (sum_by-append w (left_by p s) (wanted p))

-- ---- its safety

-- a row whose claim names a node and takes some cpu
abbrev pub RowCounts : Allocation → Type 0
RowCounts a = Counts (claim_of a)

pub rows_count : (rows : List Allocation) → AllByRecursion AllocationFits rows → AllByRecursion RowCounts rows
rows_count [] h = tt
rows_count (a ∷ rows) h = let low = h.0.4.1 in let some = h.0.5.0.0 in ((omega (arith, low), some, h.0.4.0), rows_count rows h.1)

claims_count : (rows : List Allocation) → AllByRecursion RowCounts rows → AllByRecursion Counts (claims rows)
claims_count [] h = tt
claims_count (a ∷ rows) h = elim (is_live a) as (λ b. AllByRecursion Counts (cond b (claim_of a ∷ claims rows) (claims rows))) [ true ↦ (h.0, claims_count rows h.1) | false ↦ claims_count rows h.1 ]

places_count : (x slot : ℕ) (p : AcceptedPlan) (ks : List AcceptedPlace) (rows : List Allocation) → AllByRecursion AcceptedPlaceFits ks → AllByRecursion RowCounts rows → AllByRecursion RowCounts (with_places x slot p ks rows)
places_count x slot p [] rows g h = h
places_count x slot p (k ∷ ks) rows g h =
    let low = g.0.2.1 in
    let some = g.0.3.0.0 in
    places_count x (slot + 1) p ks _ g.1 (all_within alloc_cmp alloc_id RowCounts 65536 (alloc_row x slot p k) rows (omega (arith, low), some, g.0.2.0) h)

pub planned_is_safe : (p : AcceptedPlan) (s : State) → FitsWhereAsked p s → AfterIsSafe p s → T (is_safe (planned p (with_next_count s)))
planned_is_safe p s k h =
    let g = with_room (frees (stop p.stops) s.allocs) (s.count + 1) in
    let keeps = with_room_keeps (frees (stop p.stops) s.allocs) (s.count + 1) in
    let cs = claims (planned p (with_next_count s)).allocs in
    let ds = left_by p s ++ wanted p in
    let same : (w : Claim → ℕ) → sum_by w cs ≡ sum_by w ds = λ w. sums_planned w p s k.allocs_rising k.few in
    let rows = map (stop p.stops) s.allocs in
    let kept = all_mapped RowCounts (stop p.stops) (λ a c. subst Counts (sym ((stop_releases p.stops).same_claim a)) c) s.allocs (rows_count s.allocs k.allocs) in
    let counts = claims_count (planned p (with_next_count s)).allocs (places_count (s.count + 1) 0 p p.places rows k.places kept) in
    kept_safe g keeps s.nodes cs
    (safe_by_numbers s.nodes cs k.nodes_rising (low_numbers s.nodes k.nodes) counts
    (λ n lt. subst (λ z. T (fits z (room_of (row_of nat_cmp node_number n s.nodes)))) (sym (same_use cs ds n (λ q. same (on_node n q)))) (h.fit n lt))
    (distinct_same ds cs (λ w. sym (same w)) h.distinct))

pub safe_is_planned : (p : AcceptedPlan) (s : State) → FitsWhereAsked p s → T (is_safe (planned p (with_next_count s))) → AfterIsSafe p s
safe_is_planned p s k h =
    let g = with_room (frees (stop p.stops) s.allocs) (s.count + 1) in
    let keeps = with_room_keeps (frees (stop p.stops) s.allocs) (s.count + 1) in
    let cs = claims (planned p (with_next_count s)).allocs in
    let ds = left_by p s ++ wanted p in
    let same : (w : Claim → ℕ) → sum_by w cs ≡ sum_by w ds = λ w. sums_planned w p s k.allocs_rising k.few in
    record {
      fit = λ n lt. subst (λ z. T (fits z (room_of (row_of nat_cmp node_number n s.nodes)))) (same_use cs ds n (λ q. same (on_node n q))) (kept_numbers g keeps s.nodes cs n (number_fits (map g s.nodes) cs h n));
      distinct = distinct_same cs ds same (distinct_of (map g s.nodes) cs h);
    }
