-- Stops one after the other are those that the definition keeps, and their rows claim what they
-- end.
use Rattle.std.proofs.Common.{◌≡◌, ℕ, ◌≤◌, suc, Bool, true, false, cond, not, ◌&&◌, ◌||◌, List, [], ◌∷◌, ◌++◌, length, map, filter, Option, Some, None, refl, sym, ap, subst, ◌∙◌, arith, append_assoc}
use Rattle.std.specs.Prelude.{nat_eq, bytes_eq}
use Rattle.std.specs.List.{list_any}
use Rattle.std.proofs.lemmas.List.{map-append, append-nil}
use Rattle.std.proofs.lemmas.List.Folds.{list_any-append}
use Rattle.rows.specs.declared.allocation.AllocId.{AllocId}
use Rattle.rows.specs.declared.allocation.Allocation.{Allocation}
use Rattle.rows.specs.declared.plan.Plan.{Plan}
use Rattle.rows.specs.Keys.{alloc_cmp, alloc_id}
use Rattle.fsm_tables.specs.Rows.{row_of}
use Rattle.fsm_tables.specs.Claims.{Claim, claim_of, is_live}
use Rattle.fsm_tables.specs.Lookups.{lives_for}
use Rattle.fsm_tables.proofs.Filters.{row_found}
use Rattle.fsm_model.specs.Words.{State, same_alloc, alloc_of, is_some_and}
use Rattle.fsm_model.specs.Admission.{is_live_of}
use Rattle.fsm_model.proofs.Lists.{or_false}
use Rattle.group_model.specs.Acceptance.{once_after, kept_stops}
use Rattle.fsm_state.specs.Inner.Alone.{claim_if_live, ended_by}
use Rattle.plan_apply.specs.Inner.Stops.{with_stopped, with_live_stop, AreEnded}

-- ---- the ids

abbrev pub with_stops : State → List ℕ → List AllocId → List AllocId → List AllocId
with_stops s job ids [] = ids
with_stops s job ids (x ∷ xs) = with_stops s job (with_live_stop s job ids x) xs

-- as many ids are among the ones as among the others
abbrev Alike : List AllocId → List AllocId → Type 0
Alike xs ys = (x : AllocId) → list_any (same_alloc x) xs ≡ list_any (same_alloc x) ys

moved : (a b : Bool) → (a || b) ≡ (b || a)
moved true true = refl
moved true false = refl
moved false true = refl
moved false false = refl

still_alike : (xs ys : List AllocId) (id : AllocId) → Alike xs ys → Alike (xs ++ id ∷ []) (id ∷ ys)
still_alike xs ys id h x =
    list_any-append (same_alloc x) xs (id ∷ [])
    ∙ (λ i. h x i || or_false (same_alloc x id) i)
    ∙ moved (list_any (same_alloc x) ys) (same_alloc x id)

stops_are : (s : State) (job : List ℕ) (ids seen xs : List AllocId) → Alike ids seen → with_stops s job ids xs ≡ ids ++ once_after seen (filter (is_live_of job s) xs)
stops_are s job ids seen [] h = sym (append-nil ids)
stops_are s job ids seen (x ∷ xs) h =
    let rest = filter (is_live_of job s) xs in
    elim (is_live_of job s x) as (λ l. with_stops s job (cond (l && not (list_any (same_alloc x) ids)) (ids ++ x ∷ []) ids) xs ≡ ids ++ once_after seen (cond l (x ∷ rest) rest)) [
      | true ↦
          ap (λ b. with_stops s job (cond (not b) (ids ++ x ∷ []) ids) xs) (h x)
          ∙ elim (list_any (same_alloc x) seen) as (λ b. with_stops s job (cond (not b) (ids ++ x ∷ []) ids) xs ≡ ids ++ cond b (once_after seen rest) (x ∷ once_after (x ∷ seen) rest)) [
            | true ↦ stops_are s job ids seen xs h
            | false ↦ stops_are s job (ids ++ x ∷ []) (x ∷ seen) xs (still_alike ids seen x h) ∙ append_assoc ids (x ∷ []) (once_after (x ∷ seen) rest)
          ]
      | false ↦ stops_are s job ids seen xs h
    ]

pub stops_are_kept : (s : State) (p : Plan) → with_stops s p.job [] p.stops ≡ kept_stops s p
stops_are_kept s p = stops_are s p.job [] [] p.stops (λ x. refl)

few_once : (seen xs : List AllocId) → length (once_after seen xs) ≤ length xs
few_once seen [] = omega arith
few_once seen (x ∷ xs) =
    let same : length (once_after seen xs) ≤ length xs = few_once seen xs in
    let more : length (once_after (x ∷ seen) xs) ≤ length xs = few_once (x ∷ seen) xs in
    elim (list_any (same_alloc x) seen) as (λ b. length (cond b (once_after seen xs) (x ∷ once_after (x ∷ seen) xs)) ≤ suc (length xs)) [ true ↦ omega (arith, same) | false ↦ omega (arith, more) ]

few_live : (q : AllocId → Bool) (xs : List AllocId) → length (filter q xs) ≤ length xs
few_live q [] = omega arith
few_live q (x ∷ xs) =
    let rest : length (filter q xs) ≤ length xs = few_live q xs in
    elim (q x) as (λ b. length (cond b (x ∷ filter q xs) (filter q xs)) ≤ suc (length xs)) [ true ↦ omega (arith, rest) | false ↦ omega (arith, rest) ]

pub few_stops : (s : State) (p : Plan) → length (kept_stops s p) ≤ length p.stops
few_stops s p =
    let a = few_once [] (filter (is_live_of p.job s) p.stops) in
    let b = few_live (is_live_of p.job s) p.stops in
    omega (arith, a, b)

-- ---- the rows

eq_turn : (m n : ℕ) → nat_eq m n ≡ nat_eq n m
eq_turn m n = grind arith

id_turn : (x y : AllocId) → same_alloc x y ≡ same_alloc y x
id_turn x y = λ i. eq_turn x.index y.index i && eq_turn x.slot y.slot i

not_first : (a b : Bool) → (a || b) ≡ false → a ≡ false
not_first true b e = absurd cc
not_first false b e = refl

not_second : (a b : Bool) → (a || b) ≡ false → b ≡ false
not_second true b e = absurd cc
not_second false b e = e

either_claim : (b : Bool) (o : Option Allocation) (es fs : List Claim) → cond b (es ++ fs) (claim_if_live o (es ++ fs)) ≡ cond b es (claim_if_live o es) ++ fs
either_claim true o es fs = refl
either_claim false None es fs = refl
either_claim false (Some a) es fs = elim (is_live a) as (λ l. cond l (claim_of a ∷ (es ++ fs)) (es ++ fs) ≡ cond l (claim_of a ∷ es) es ++ fs) [ true ↦ refl | false ↦ refl ]

ended_more : (ids : List AllocId) (id : AllocId) (rows : List Allocation) → list_any (same_alloc id) ids ≡ false → ended_by (ids ++ id ∷ []) rows ≡ ended_by ids rows ++ claim_if_live (row_of alloc_cmp alloc_id id rows) []
ended_more [] id rows e = refl
ended_more (x ∷ ids) id rows e =
    let last = claim_if_live (row_of alloc_cmp alloc_id id rows) [] in
    let apart : list_any (same_alloc x) (ids ++ id ∷ []) ≡ list_any (same_alloc x) ids =
    list_any-append (same_alloc x) ids (id ∷ []) ∙ ap (λ b. list_any (same_alloc x) ids || (b || false)) (id_turn x id ∙ not_first (same_alloc id x) (list_any (same_alloc id) ids) e) ∙ or_false (list_any (same_alloc x) ids) in
    (λ i. cond (apart i) (ended_more ids id rows (not_second (same_alloc id x) (list_any (same_alloc id) ids) e) i) (claim_if_live (row_of alloc_cmp alloc_id x rows) (ended_more ids id rows (not_second (same_alloc id x) (list_any (same_alloc id) ids) e) i)))
    ∙ either_claim (list_any (same_alloc x) ids) (row_of alloc_cmp alloc_id x rows) (ended_by ids rows) last

live_claim : (b : Bool) (c : Claim) → b ≡ true → cond b (c ∷ []) [] ≡ c ∷ []
live_claim true c e = refl
live_claim false c e = absurd cc

-- one more row, of a live allocation
pub more_ended : (s : State) (rows : List Allocation) (a : Allocation) (id : AllocId) → alloc_of id s ≡ Some a → is_live a ≡ true → AreEnded s rows → AreEnded s (with_stopped rows a)
more_ended s rows a id e live h =
    elim (list_any (same_alloc a.id) (map alloc_id rows)) as (λ b. list_any (same_alloc a.id) (map alloc_id rows) ≡ b → AreEnded s (cond b rows (rows ++ a ∷ []))) [
      | true ↦ λ t. h
      | false ↦ λ t.
          let found : alloc_of a.id s ≡ Some a = subst (λ x. alloc_of x s ≡ Some a) (sym (row_found id a s.allocs e)) e in
          ap (λ ids. ended_by ids s.allocs) (map-append alloc_id rows (a ∷ []))
          ∙ ended_more (map alloc_id rows) a.id s.allocs t
          ∙ (λ i. h i ++ claim_if_live (found i) [])
          ∙ ap (λ cs. map claim_of rows ++ cs) (live_claim (is_live a) (claim_of a) live)
          ∙ sym (map-append claim_of rows (a ∷ []))
    ] refl

row_ids : (b : Bool) (rows : List Allocation) (a : Allocation) → map alloc_id (cond b rows (rows ++ a ∷ [])) ≡ cond (not b) (map alloc_id rows ++ a.id ∷ []) (map alloc_id rows)
row_ids true rows a = refl
row_ids false rows a = map-append alloc_id rows (a ∷ [])

pub more_ids : (s : State) (job : List ℕ) (rows : List Allocation) (a : Allocation) (id : AllocId) → alloc_of id s ≡ Some a → lives_for job a ≡ true → map alloc_id (with_stopped rows a) ≡ with_live_stop s job (map alloc_id rows) id
more_ids s job rows a id e live =
    let ids = map alloc_id rows in
    row_ids (list_any (same_alloc a.id) ids) rows a
    ∙ ap (λ x. cond (not (list_any (same_alloc x) ids)) (ids ++ x ∷ []) ids) (row_found id a s.allocs e)
    ∙ ap (λ b. cond (b && not (list_any (same_alloc id) ids)) (ids ++ id ∷ []) ids) (sym (ap (is_some_and (lives_for job)) e ∙ live))

is_first : (a b : Bool) → (a && b) ≡ true → a ≡ true
is_first true b e = refl
is_first false b e = absurd cc

pub is_living : (job : List ℕ) (a : Allocation) → lives_for job a ≡ true → is_live a ≡ true
is_living job a e = is_first (is_live a) (bytes_eq a.job job) e
