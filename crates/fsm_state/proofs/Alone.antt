-- Where names are held once, a plan that is looked at alone passes exactly where the state after it
-- is safe; and what keeps names held once.
use Rattle.std.proofs.Common.{◌≡◌, ℕ, zero, suc, ◌+◌, ◌-◌, ◌<◌, ◌≤◌, Bool, true, false, cond, not, ◌&&◌, ◌||◌, T, List, [], ◌∷◌, ◌++◌, length, map, Option, Some, None, refl, sym, ap, subst, ◌∙◌, arith, inl, inr}
use Rattle.std.specs.Prelude.{sum_by, nat_eq, nat_le, nat_lt}
use Rattle.std.specs.List.{AllByRecursion, list_all, list_any, slice_get}
use Rattle.std.specs.Cmp.{nat_cmp_is}
use Rattle.std.specs.declared.cmp.Ordering.TheVariants.{Greater}
use Rattle.std.specs.Ordering.{nat_cmp, ordering_then, is_eq, is_lt}
use Rattle.std.proofs.lemmas.Bool.{cases_lt}
use Rattle.std.proofs.lemmas.List.Sums.{sum_by-cons, sum_by-append}
use Rattle.rows.specs.declared.size.Size.{Size}
use Rattle.rows.specs.declared.allocation.AllocId.{AllocId}
use Rattle.rows.specs.declared.allocation.Desired.TheVariants as desires
use Rattle.rows.specs.declared.allocation.Allocation.{Allocation}
use Rattle.rows.specs.declared.command.AcceptedPlan.{AcceptedPlan}
use Rattle.rows.specs.Keys.{alloc_cmp, alloc_id, node_number}
use Rattle.rows.specs.Rising.{is_below, is_rising}
use Rattle.fsm_tables.specs.Rows.{row_of, has_row, put, put_within}
use Rattle.fsm_tables.proofs.RowLaws.{both, first, second, sum_by-put}
use Rattle.fsm_tables.specs.Inner.Sums.{weight_of, weight}
use Rattle.rows.specs.Sizes.{Part, amount, plus}
use Rattle.rows.proofs.SizeLaws.{amount_of_plus, same_in_each}
use Rattle.fsm_tables.proofs.Uses.{use_is, use_fits}
use Rattle.fsm_tables.specs.Claims.{Claim, claim_of, claims, on_node, used, is_live, is_wanted, is_active}
use Rattle.fsm_tables.specs.LiveNames.{live_named}
use Rattle.fsm_model.specs.Words.{State, same_alloc}
use Rattle.fsm_model.specs.Safe.{same_name, are_distinct, is_safe}
use Rattle.fsm_model.specs.Effect.{with_next_count, stop, planned}
use Rattle.fsm_model.proofs.SafeLaws.{stop_releases, released, fewer_any}
use Rattle.rows.proofs.KeyLaws.{alloc_cmp_total}
use Rattle.rows.proofs.Truth.{is_true}
use Rattle.fsm_model.specs.Plans.{room_of, fits_number, ended, wanted, are_free, are_dated, kept_claims, IsAskable}
use Rattle.fsm_model.proofs.UseLaws.{Counts, released_sum}
use Rattle.fsm_model.proofs.NameLaws.{join, itself, no_other, rest_other, distinct_same}
use Rattle.fsm_model.proofs.PlanLaws.{plan_is_safe, safe_is_plan, planned_count, kept_is_distinct, distinct_mapped, distinct-append, used_planned}
use Rattle.fsm_model.proofs.AfterLaws.{sums_same, sums_two, sum_at, claims_sum}
use Rattle.fsm_model.proofs.Lists.{same_truth, and_true, and_false}
use Rattle.fsm_model.proofs.Keys.{at_alloc}
use Rattle.fsm_state.specs.Inner.Alone.{claim_name, is_free_but, is_name_free, claim_if_live, ended_by, has_room, all_from, all_numbers, passes_alone}

-- ---- names

pub turned_name : (c d : Claim) → T (same_name c d) → T (same_name d c)
turned_name c d h = join c d c h (itself c)

-- whether one of the claims is of the name of d
abbrev holds_name : Claim → List Claim → Bool
holds_name d cs = list_any (λ c. same_name c d) cs

not_held : (c d : Claim) (cs : List Claim) → T (same_name c d) → T (not (list_any (same_name c) cs)) → T (not (holds_name d cs))
not_held c d [] g h = tt
not_held c d (e ∷ cs) g h =
    elim (same_name e d) as (λ b. same_name e d ≡ b → T (not (b || holds_name d cs))) [
      | true ↦ λ t. absurd (no_other (same_name c e) (list_any (same_name c) cs) (join d c e (turned_name c d g) (turned_name e d (subst T (sym t) tt))) h)
      | false ↦ λ t. not_held c d cs g (rest_other (same_name c e) (list_any (same_name c) cs) h)
    ] refl

pub stop_lives : (ids : List AllocId) (a : Allocation) → is_live (stop ids a) ≡ (is_live a && not (list_any (same_alloc a.id) ids))
stop_lives ids a =
    elim (list_any (same_alloc a.id) ids) as (λ m. is_live (cond (m && is_wanted a.desired) (record a { desired = desires.Stop }) a) ≡ (is_live a && not m)) [
      | true ↦ elim (is_wanted a.desired) as (λ b. is_wanted a.desired ≡ b → is_live (cond b (record a { desired = desires.Stop }) a) ≡ (is_live a && false)) [
        | true ↦ λ e. sym (and_false (is_live a))
        | false ↦ λ e. ap (λ b. b && is_active a.client) e ∙ sym (and_false (is_live a))
      ] refl
      | false ↦ sym (and_true (is_live a))
    ]

-- where names are held once, what stops leave holds a name where it finds a row that they do not
-- name
pub free_of : (ids : List AllocId) (d : Claim) (rows : List Allocation) → T (are_distinct (claims rows)) → not (holds_name d (claims (map (stop ids) rows))) ≡ is_name_free ids rows d
free_of ids d [] h = refl
free_of ids d (a ∷ rows) h =
    let rest = claims (map (stop ids) rows) in
    (λ i. not (holds_name d (cond (stop_lives ids a i) ((stop_releases ids).same_claim a i ∷ rest) rest)))
    ∙ elim (is_live a) as (λ l. T (are_distinct (cond l (claim_of a ∷ claims rows) (claims rows))) → not (holds_name d (cond (l && not (list_any (same_alloc a.id) ids)) (claim_of a ∷ rest) rest)) ≡ is_free_but ids (cond (l && same_name (claim_of a) d) (Some a) (live_named (claim_name d) rows))) [
      | true ↦ λ h. elim (same_name (claim_of a) d) as (λ t. same_name (claim_of a) d ≡ t → not (holds_name d (cond (not (list_any (same_alloc a.id) ids)) (claim_of a ∷ rest) rest)) ≡ is_free_but ids (cond t (Some a) (live_named (claim_name d) rows))) [
        | true ↦ λ e. elim (list_any (same_alloc a.id) ids) as (λ m. not (holds_name d (cond (not m) (claim_of a ∷ rest) rest)) ≡ m) [
          | true ↦ is_true _ (not_held (claim_of a) d rest (subst T (sym e) tt) (fewer_any (same_name (claim_of a)) rest (claims rows) (released (stop ids) (stop_releases ids) rows) (first _ _ h)))
          | false ↦ ap (λ t. not (t || holds_name d rest)) e
        ]
        | false ↦ λ e. elim (list_any (same_alloc a.id) ids) as (λ m. not (holds_name d (cond (not m) (claim_of a ∷ rest) rest)) ≡ is_name_free ids rows d) [
          | true ↦ free_of ids d rows (second _ _ h)
          | false ↦ ap (λ t. not (t || holds_name d rest)) e ∙ free_of ids d rows (second _ _ h)
        ]
      ] refl
      | false ↦ λ h. free_of ids d rows h
    ] h

mixed : (a b x y : Bool) → (not (a || b) && (not x && y)) ≡ (not (a || x) && (not b && y))
mixed true b x y = refl
mixed false true true y = refl
mixed false true false y = refl
mixed false false x y = refl

one_out : (c : Claim) (q : Claim → Bool) (ds : List Claim) → (not (list_any (same_name c) ds) && list_all (λ d. not (q d)) ds) ≡ list_all (λ d. not (same_name c d || q d)) ds
one_out c q [] = refl
one_out c q (d ∷ ds) = mixed (same_name c d) (list_any (same_name c) ds) (q d) (list_all (λ d. not (q d)) ds) ∙ ap (λ b. not (same_name c d || q d) && b) (one_out c q ds)

all_true : (ds : List Claim) → list_all (λ d. true) ds ≡ true
all_true [] = refl
all_true (d ∷ ds) = all_true ds

turned_free : (cs ds : List Claim) → are_free cs ds ≡ list_all (λ d. not (holds_name d cs)) ds
turned_free [] ds = sym (all_true ds)
turned_free (c ∷ cs) ds = ap (λ b. not (list_any (same_name c) ds) && b) (turned_free cs ds) ∙ one_out c (λ d. holds_name d cs) ds

free_is : (ids : List AllocId) (rows : List Allocation) (ds : List Claim) → T (are_distinct (claims rows)) → are_free (claims (map (stop ids) rows)) ds ≡ list_all (is_name_free ids rows) ds
free_is ids rows ds h = turned_free (claims (map (stop ids) rows)) ds ∙ (λ i. list_all (λ d. free_of ids d rows h i) ds)

-- ---- what stops end

-- what a row that is named adds
abbrev gone : (Claim → ℕ) → List AllocId → Allocation → ℕ
gone w ids a = cond (list_any (same_alloc a.id) ids) (weight w a) 0

ends_are : (l m : Bool) → (l && not (l && not m)) ≡ (m && l)
ends_are true true = refl
ends_are true false = refl
ends_are false true = refl
ends_are false false = refl

pub ended_sum : (w : Claim → ℕ) (ids : List AllocId) (rows : List Allocation) → sum_by w (ended (stop ids) rows) ≡ sum_by (gone w ids) rows
ended_sum w ids [] = refl
ended_sum w ids (a ∷ rows) =
    let es = ended (stop ids) rows in
    let rest : sum_by w es ≡ sum_by (gone w ids) rows = ended_sum w ids rows in
    ap (λ b. sum_by w (cond b (claim_of a ∷ es) es)) (ap (λ b. is_live a && not b) (stop_lives ids a) ∙ ends_are (is_live a) (list_any (same_alloc a.id) ids))
    ∙ elim (list_any (same_alloc a.id) ids) as (λ m. sum_by w (cond (m && is_live a) (claim_of a ∷ es) es) ≡ cond m (weight w a) 0 + sum_by (gone w ids) rows) [
      | true ↦ elim (is_live a) as (λ l. sum_by w (cond l (claim_of a ∷ es) es) ≡ cond l (w (claim_of a)) 0 + sum_by (gone w ids) rows) [
        | true ↦ omega (arith, rest, sum_by-cons w (claim_of a) es)
        | false ↦ omega (arith, rest)
      ]
      | false ↦ omega (arith, rest)
    ]
    ∙ sym (sum_by-cons (gone w ids) a rows)

none_gone : (w : Claim → ℕ) (rows : List Allocation) → sum_by (gone w []) rows ≡ 0
none_gone w [] = refl
none_gone w (a ∷ rows) = let rest : sum_by (gone w []) rows ≡ 0 = none_gone w rows in sum_by-cons (gone w []) a rows ∙ omega (arith, rest)

number_of : (a b : ℕ) → T (nat_eq a b) → a ≡ b
number_of a b h = grind arith

same_ids : (a id : AllocId) (ids : List AllocId) → T (same_alloc a id) → list_any (same_alloc a) ids ≡ list_any (same_alloc id) ids
same_ids a id ids h =
    let entry = number_of a.index id.index (first _ _ h) in
    let slot = number_of a.slot id.slot (second (nat_eq a.index id.index) _ h) in
    λ i. list_any (λ x. nat_eq (entry i) x.index && nat_eq (slot i) x.slot) ids

again : (a id : AllocId) (ids : List AllocId) → list_any (same_alloc id) ids ≡ true → (same_alloc a id || list_any (same_alloc a) ids) ≡ list_any (same_alloc a) ids
again a id ids e = elim (same_alloc a id) as (λ b. same_alloc a id ≡ b → (b || list_any (same_alloc a) ids) ≡ list_any (same_alloc a) ids) [
  | true ↦ λ t. sym (same_ids a id ids (subst T (sym t) tt) ∙ e)
  | false ↦ λ t. refl
] refl

apart_step : (w : Claim → ℕ) (id : AllocId) (ids : List AllocId) (a : Allocation) → list_any (same_alloc id) ids ≡ false → gone w (id ∷ ids) a ≡ cond (is_eq (alloc_cmp id a.id)) (weight w a) 0 + gone w ids a
apart_step w id ids a e =
    elim (same_alloc a.id id) as (λ b. same_alloc a.id id ≡ b → cond (b || list_any (same_alloc a.id) ids) (weight w a) 0 ≡ cond b (weight w a) 0 + gone w ids a) [
      | true ↦ λ t. let none : gone w ids a ≡ 0 = ap (λ b. cond b (weight w a) 0) (same_ids a.id id ids (subst T (sym t) tt) ∙ e) in omega (arith, none)
      | false ↦ λ t. omega arith
    ] refl
    ∙ ap (λ b. cond b (weight w a) 0 + gone w ids a) (sym (at_alloc id a))

one_sum : (w : Claim → ℕ) (o : Option Allocation) (rest : List Claim) → sum_by w (claim_if_live o rest) ≡ weight_of (weight w) o + sum_by w rest
one_sum w None rest = omega arith
one_sum w (Some a) rest = elim (is_live a) as (λ l. sum_by w (cond l (claim_of a ∷ rest) rest) ≡ cond l (w (claim_of a)) 0 + sum_by w rest) [ true ↦ sum_by-cons w (claim_of a) rest | false ↦ omega arith ]

pub gone_sum : (w : Claim → ℕ) (ids : List AllocId) (rows : List Allocation) → T (is_rising alloc_cmp alloc_id rows) → sum_by (gone w ids) rows ≡ sum_by w (ended_by ids rows)
gone_sum w [] rows h = none_gone w rows
gone_sum w (id ∷ ids) rows h =
    let rest : sum_by (gone w ids) rows ≡ sum_by w (ended_by ids rows) = gone_sum w ids rows h in
    let here = λ (a : Allocation). cond (is_eq (alloc_cmp id a.id)) (weight w a) 0 in
    elim (list_any (same_alloc id) ids) as (λ m. list_any (same_alloc id) ids ≡ m → sum_by (gone w (id ∷ ids)) rows ≡ sum_by w (cond m (ended_by ids rows) (claim_if_live (row_of alloc_cmp alloc_id id rows) (ended_by ids rows)))) [
      | true ↦ λ e. sums_same (gone w (id ∷ ids)) (gone w ids) (λ a. ap (λ b. cond b (weight w a) 0) (again a.id id ids e)) rows ∙ rest
      | false ↦ λ e.
          let all : sum_by (gone w (id ∷ ids)) rows ≡ sum_by here rows + sum_by (gone w ids) rows = sums_same (gone w (id ∷ ids)) (λ a. here a + gone w ids a) (λ a. apart_step w id ids a e) rows ∙ sums_two here (gone w ids) rows in
          let one : sum_by here rows ≡ weight_of (weight w) (row_of alloc_cmp alloc_id id rows) = sum_at alloc_cmp alloc_id alloc_cmp_total (weight w) id rows h in
          let front = one_sum w (row_of alloc_cmp alloc_id id rows) (ended_by ids rows) in
          omega (arith, all, one, rest, front)
    ] refl

few_ended_one : (o : Option Allocation) (rest : List Claim) → length (claim_if_live o rest) ≤ 1 + length rest
few_ended_one None rest = omega arith
few_ended_one (Some a) rest = elim (is_live a) as (λ l. length (cond l (claim_of a ∷ rest) rest) ≤ 1 + length rest) [ true ↦ omega arith | false ↦ omega arith ]

-- no more claims than ids
pub few_ended : (ids : List AllocId) (rows : List Allocation) → length (ended_by ids rows) ≤ length ids
few_ended [] rows = omega arith
few_ended (id ∷ ids) rows =
    let rest : length (ended_by ids rows) ≤ length ids = few_ended ids rows in
    let one = few_ended_one (row_of alloc_cmp alloc_id id rows) (ended_by ids rows) in
    elim (list_any (same_alloc id) ids) as (λ m. length (cond m (ended_by ids rows) (claim_if_live (row_of alloc_cmp alloc_id id rows) (ended_by ids rows))) ≤ suc (length ids)) [
      | true ↦ omega (arith, rest)
      | false ↦ omega (arith, rest, one)
    ]

-- ---- room

moved : (u w k e f r : ℕ) → k + e ≡ u + w → e ≡ f → nat_le (u + w) (r + f) ≡ nat_le k r
moved u w k e f r g h = grind arith

part_is : (w : Claim → ℕ) (p : AcceptedPlan) (s : State) (r : ℕ) → T (is_rising alloc_cmp alloc_id s.allocs)
    → nat_le (sum_by w (claims s.allocs) + sum_by w (wanted p)) (r + sum_by w (ended_by p.stops s.allocs)) ≡ nat_le (sum_by w (kept_claims p s ++ wanted p)) r
part_is w p s r h = moved _ _ _ _ _ r (used_planned w p s) (ended_sum w p.stops s.allocs ∙ gone_sum w p.stops s.allocs h)

-- a part of what is used by some and by others, and of a room with what some give back
pub plus_use : (q : Part) (n : ℕ) (cs ds : List Claim) → amount q (plus (used n cs) (used n ds)) ≡ sum_by (on_node n q) cs + sum_by (on_node n q) ds
plus_use q n cs ds = amount_of_plus q (used n cs) (used n ds) ∙ (λ i. use_is q n cs i + use_is q n ds i)

pub room_with : (q : Part) (n : ℕ) (room : Size) (cs : List Claim) → amount q (plus room (used n cs)) ≡ amount q room + sum_by (on_node n q) cs
room_with q n room cs = amount_of_plus q room (used n cs) ∙ ap (λ (m : ℕ). amount q room + m) (use_is q n cs)

room_is : (p : AcceptedPlan) (s : State) (n : ℕ) → T (is_rising alloc_cmp alloc_id s.allocs) → has_room s (ended_by p.stops s.allocs) (wanted p) n ≡ fits_number s.nodes (kept_claims p s ++ wanted p) n
room_is p s n h =
    let room = room_of (row_of nat_cmp node_number n s.nodes) in
    let more = plus (used n (claims s.allocs)) (used n (wanted p)) in
    let whole = plus room (used n (ended_by p.stops s.allocs)) in
    let cs = kept_claims p s ++ wanted p in
    same_in_each (λ q. nat_le (amount q more) (amount q whole)) (λ q. nat_le (amount q (used n cs)) (amount q room)) (λ q.
    (λ i. nat_le (plus_use q n (claims s.allocs) (wanted p) i) (room_with q n room (ended_by p.stops s.allocs) i))
    ∙ part_is (on_node n q) p s (amount q room) h
    ∙ ap (λ (m : ℕ). nat_le m (amount q room)) (sym (use_is q n cs)))

off_zero : (n x : ℕ) → 1 ≤ n → cond (nat_eq n 0) x 0 ≡ 0
off_zero n x le = grind arith

none_on_zero : (q : Part) (cs : List Claim) → AllByRecursion Counts cs → sum_by (on_node 0 q) cs ≡ 0
none_on_zero q [] h = refl
none_on_zero q (c ∷ cs) h =
    let rest : sum_by (on_node 0 q) cs ≡ 0 = none_on_zero q cs h.1 in
    let here : on_node 0 q c ≡ 0 = off_zero c.node (amount q c.size) h.0.2 in
    sum_by-cons (on_node 0 q) c cs ∙ omega (arith, rest, here)

from_all : (f : ℕ → Bool) (n k : ℕ) → T (all_from f n k) → (m : ℕ) → n ≤ m → m < n + k → T (f m)
from_all f n zero h m le lt = absurd (omega arith)
from_all f n (suc k) h m le lt =
    elim (cases_lt n m) [
      | inl more ↦ from_all f (n + 1) k (second _ _ h) m (omega arith) (omega arith)
      | inr less ↦ let same : n ≡ m = omega arith in subst (λ z. T (f z)) same (first _ _ h)
    ]

to_all : (f : ℕ → Bool) (n k : ℕ) → ((m : ℕ) → n ≤ m → m < n + k → T (f m)) → T (all_from f n k)
to_all f n zero g = tt
to_all f n (suc k) g = both _ _ (g n (omega arith) (omega arith)) (to_all f (n + 1) k (λ m le lt. g m (omega arith) (omega arith)))

numbers_pass : (f : ℕ → Bool) → T (all_numbers f) → (n : ℕ) → 1 ≤ n → n < 65 → T (f n)
unfolding all_numbers
numbers_pass f h n le lt = from_all f 1 64 h n le (omega arith)

pass_numbers : (f : ℕ → Bool) → ((n : ℕ) → 1 ≤ n → n < 65 → T (f n)) → T (all_numbers f)
unfolding all_numbers
pass_numbers f g = to_all f 1 64 (λ n le lt. g n le (omega arith))

-- the numbers one after the other: none yet, one more, all
pub no_number : (f : ℕ → Bool) → all_numbers f ≡ all_from f 1 (64 - 0)
unfolding all_numbers
no_number f = let all : 64 ≡ 64 - 0 = omega arith in ap (all_from f 1) all

pub all_done : (f : ℕ → Bool) (n : ℕ) → 64 ≤ n → all_from f (n + 1) (64 - n) ≡ true
all_done f n le = let none : 64 - n ≡ 0 = omega arith in ap (all_from f (n + 1)) none

pub one_number : (f : ℕ → Bool) (n : ℕ) → n < 64 → all_from f (n + 1) (64 - n) ≡ (f (n + 1) && all_from f (n + 1 + 1) (64 - (n + 1)))
one_number f n lt = let more : 64 - n ≡ suc (64 - (n + 1)) = omega arith in ap (all_from f (n + 1)) more

fit_at : (p : AcceptedPlan) (s : State) → IsAskable p s → T (is_rising alloc_cmp alloc_id s.allocs) → T (all_numbers (has_room s (ended_by p.stops s.allocs) (wanted p))) → (n : ℕ) → n < 65 → T (fits_number s.nodes (kept_claims p s ++ wanted p) n)
fit_at p s a rising h n lt =
    elim (cases_lt 0 n) [
      | inl some ↦ subst T (room_is p s n rising) (numbers_pass (has_room s (ended_by p.stops s.allocs) (wanted p)) h n (omega arith) lt)
      | inr none ↦
          let zeroth : 0 ≡ n = omega arith in
          subst (λ m. T (fits_number s.nodes (kept_claims p s ++ wanted p) m)) zeroth
          (let cs = kept_claims p s ++ wanted p in let room = room_of (row_of nat_cmp node_number 0 s.nodes) in
          use_fits 0 cs room (λ q. let no_use = none_on_zero q cs (planned_count p s a) in omega (arith, no_use)))
    ]

-- ---- the test

pub alone_is_safe : (p : AcceptedPlan) (s : State) → IsAskable p s → T (is_rising alloc_cmp alloc_id s.allocs) → T (are_distinct (claims s.allocs)) → passes_alone p s ≡ is_safe (planned p (with_next_count s))
alone_is_safe p s a rising once =
    let room = all_numbers (has_room s (ended_by p.stops s.allocs) (wanted p)) in
    let free = list_all (is_name_free p.stops s.allocs) (wanted p) in
    same_truth (passes_alone p s) (is_safe (planned p (with_next_count s)))
    (λ h.
    let front : T (room && are_distinct (wanted p)) = first (room && are_distinct (wanted p)) free h in
    plan_is_safe p s a (record {
      fit = fit_at p s a rising (first room (are_distinct (wanted p)) front);
      kept_distinct = kept_is_distinct p s once;
      wanted_distinct = second room (are_distinct (wanted p)) front;
      free = subst T (sym (free_is p.stops s.allocs (wanted p) once)) (second (room && are_distinct (wanted p)) free h);
    }))
    (λ h.
    let g = safe_is_plan p s a h in
    both (room && are_distinct (wanted p)) free
    (both room (are_distinct (wanted p)) (pass_numbers (has_room s (ended_by p.stops s.allocs) (wanted p)) (λ m le lt. subst T (sym (room_is p s m rising)) (g.fit m lt))) g.wanted_distinct)
    (subst T (free_is p.stops s.allocs (wanted p) once) g.free))

-- ---- every row was made before where the last one was

below_index : (a b : AllocId) → T (is_lt (alloc_cmp a b)) → a.index ≤ b.index
below_index a b h =
    elim (cases_lt b.index a.index) [
      | inl more ↦ absurd (subst (λ r. T (is_lt (ordering_then r (nat_cmp a.slot b.slot)))) (sym (nat_cmp_is a.index b.index Greater more)) h)
      | inr less ↦ omega arith
    ]

last_behind : (a b : Allocation) (rows : List Allocation) → slice_get (a ∷ b ∷ rows) (length (a ∷ b ∷ rows) - 1) ≡ slice_get (b ∷ rows) (length (b ∷ rows) - 1)
last_behind a b rows = let e : suc (suc (length rows)) - 1 ≡ suc (suc (length rows) - 1) = omega arith in ap (slice_get (a ∷ b ∷ rows)) e

last_above : (k : AllocId) (rows : List Allocation) (r : Allocation) → T (is_below alloc_cmp alloc_id k rows) → slice_get rows (length rows - 1) ≡ Some r → k.index ≤ r.id.index
last_above k [] r h e = absurd cc
last_above k (a ∷ []) r h e = let same : a ≡ r = cc in subst (λ (z : Allocation). k.index ≤ z.id.index) same (below_index k a.id (first _ _ h))
last_above k (a ∷ b ∷ rows) r h e = last_above k (b ∷ rows) r (second _ _ h) (sym (last_behind a b rows) ∙ e)

earlier : (a b x : ℕ) → a ≤ b → (nat_lt a x && nat_lt b x) ≡ nat_lt b x
earlier a b x le = grind arith

no_last : (a : Allocation) (rows : List Allocation) → slice_get (a ∷ rows) (length (a ∷ rows) - 1) ≡ None → ⊥
no_last a [] e = cc
no_last a (b ∷ rows) e = no_last b rows (sym (last_behind a b rows) ∙ e)

-- where there is no last one there is none
pub dated_by_none : (x : ℕ) (rows : List Allocation) → slice_get rows (length rows - 1) ≡ None → are_dated x rows ≡ true
dated_by_none x [] e = refl
dated_by_none x (a ∷ rows) e = absurd (no_last a rows e)

pub dated_by_last : (x : ℕ) (rows : List Allocation) (r : Allocation) → T (is_rising alloc_cmp alloc_id rows) → slice_get rows (length rows - 1) ≡ Some r → are_dated x rows ≡ nat_lt r.id.index x
dated_by_last x [] r h e = absurd cc
dated_by_last x (a ∷ []) r h e = let same : a ≡ r = cc in and_true (nat_lt a.id.index x) ∙ ap (λ (z : Allocation). nat_lt z.id.index x) same
dated_by_last x (a ∷ b ∷ rows) r h e =
    let behind = sym (last_behind a b rows) ∙ e in
    ap (λ b. nat_lt a.id.index x && b) (dated_by_last x (b ∷ rows) r (second _ _ h) behind)
    ∙ earlier a.id.index r.id.index x (last_above a.id (b ∷ rows) r (first _ _ h) behind)

-- ---- a row that is put

put_sum : (w : Claim → ℕ) (a : Allocation) (rows : List Allocation) → T (is_rising alloc_cmp alloc_id rows)
    → sum_by w (claims (map (stop (a.id ∷ [])) rows) ++ cond (is_live a) (claim_of a ∷ []) []) ≡ sum_by w (claims (put alloc_cmp alloc_id a rows))
put_sum w a rows h =
    let ids = a.id ∷ [] in
    let left = claims (map (stop ids) rows) in
    let mine = cond (is_live a) (claim_of a ∷ []) [] in
    let all = sum_by-append w left mine in
    let rest = released_sum w (stop ids) (stop_releases ids) rows in
    let over : sum_by w (ended (stop ids) rows) ≡ sum_by w (ended_by ids rows) = ended_sum w ids rows ∙ gone_sum w ids rows h in
    let one : sum_by w (ended_by ids rows) ≡ weight_of (weight w) (row_of alloc_cmp alloc_id a.id rows) + 0 = one_sum w (row_of alloc_cmp alloc_id a.id rows) [] in
    let new : sum_by w mine ≡ weight w a = elim (is_live a) as (λ l. sum_by w (cond l (claim_of a ∷ []) []) ≡ cond l (w (claim_of a)) 0) [ true ↦ sum_by-cons w (claim_of a) [] ∙ omega arith | false ↦ refl ] in
    let after : sum_by w (claims (put alloc_cmp alloc_id a rows)) ≡ sum_by (weight w) (put alloc_cmp alloc_id a rows) = claims_sum w (put alloc_cmp alloc_id a rows) in
    let before : sum_by w (claims rows) ≡ sum_by (weight w) rows = claims_sum w rows in
    let change = sum_by-put alloc_cmp alloc_id alloc_cmp_total (weight w) a rows h in
    omega (arith, all, rest, over, one, new, after, before, change)

own_free : (a : Allocation) (rows : List Allocation) → T (not (is_live a) || is_name_free (a.id ∷ []) rows (claim_of a)) → T (list_all (is_name_free (a.id ∷ []) rows) (cond (is_live a) (claim_of a ∷ []) []))
own_free a rows h = elim (is_live a) as (λ l. T (not l || is_name_free (a.id ∷ []) rows (claim_of a)) → T (list_all (is_name_free (a.id ∷ []) rows) (cond l (claim_of a ∷ []) []))) [ true ↦ λ h. both _ _ h tt | false ↦ λ h. tt ] h

own_distinct : (a : Allocation) → T (are_distinct (cond (is_live a) (claim_of a ∷ []) []))
own_distinct a = elim (is_live a) as (λ l. T (are_distinct (cond l (claim_of a ∷ []) []))) [ true ↦ tt | false ↦ tt ]

-- names stay held once where the name of a live row finds no other row
put_once : (a : Allocation) (rows : List Allocation) → T (is_rising alloc_cmp alloc_id rows) → T (are_distinct (claims rows)) → T (not (is_live a) || is_name_free (a.id ∷ []) rows (claim_of a)) → T (are_distinct (claims (put alloc_cmp alloc_id a rows)))
put_once a rows h once free =
    let ids = a.id ∷ [] in
    let left = claims (map (stop ids) rows) in
    let mine = cond (is_live a) (claim_of a ∷ []) [] in
    let apart : T (are_free left mine) = subst T (sym (free_is ids rows mine once)) (own_free a rows free) in
    distinct_same (left ++ mine) (claims (put alloc_cmp alloc_id a rows)) (λ w. put_sum w a rows h)
    (subst T (sym (distinct-append left mine)) (both (are_distinct left && are_distinct mine) (are_free left mine) (both (are_distinct left) (are_distinct mine) (distinct_mapped (stop ids) (stop_releases ids) rows once) (own_distinct a)) apart))

pub put_within_once : (most : ℕ) (a : Allocation) (rows : List Allocation) → T (is_rising alloc_cmp alloc_id rows) → T (are_distinct (claims rows)) → T (not (is_live a) || is_name_free (a.id ∷ []) rows (claim_of a)) → T (are_distinct (claims (put_within alloc_cmp alloc_id most a rows)))
put_within_once most a rows h once free = elim (has_row alloc_cmp alloc_id a.id rows || nat_lt (length rows) most) as (λ b. T (are_distinct (claims (cond b (put alloc_cmp alloc_id a rows) rows)))) [ true ↦ put_once a rows h once free | false ↦ once ]
