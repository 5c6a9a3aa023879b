-- Plans and steps are determined; and a plan is within its limits.
use Rattle.std.proofs.Common.{◌≡◌, ℕ, zero, suc, ◌<◌, ◌≤◌, Bool, true, false, not, cond, ◌&&◌, ◌||◌, List, [], ◌∷◌, length, take, map, Option, Some, None, refl, sym, ap, subst, ◌∙◌, arith, inl, inr}
use Rattle.std.specs.Prelude.{nat_lt, nat_eq, nat_le}
use Rattle.std.specs.List.{list_all}
use Rattle.std.specs.Ordering.{nat_cmp, is_eq}
use Rattle.std.proofs.lemmas.List.{length_push}
use Rattle.rows.specs.declared.job.Group.{Group}
use Rattle.rows.specs.declared.node.Node.{Node}
use Rattle.rows.specs.declared.evaluation.Evaluation.{Evaluation}
use Rattle.rows.specs.declared.token.Delivery.{Delivery}
use Rattle.rows.specs.declared.allocation.Allocation.{Allocation}
use Rattle.rows.specs.Keys.{node_number}
use Rattle.fsm_tables.specs.Rows.{row_of}
use Rattle.fsm_tables.specs.Claims.{Claim}
use Rattle.fsm_tables.proofs.RowLaws.{some_same}
use Rattle.fsm_model.specs.Words.{State, eval_of}
use Rattle.rows.specs.declared.worker.WorkerResponse.TheVariants.{Delivered, PlanResult, Refused}
use Rattle.group_model.specs.Scheduling.{WantedName, PlanPart, is_full, with_stop, with_place, place_on, live_of_name, has_room_for, is_as_good, fullness_with, IsBest, fits_nowhere, IsNext, GoesOn, unsized, first_part, missing_names}
use Rattle.group_model.specs.NextStep.{WorkerStep, IsStepWith, IsStepWithRow, IsStepOn, IsStepOnDelivery, after_plan}
use Rattle.scheduler.specs.Laws.{OnePlan, OneStep}

both_kinds : true ≡ false → ⊥
both_kinds e = absurd cc

first_true : (a b : Bool) → (a && b) ≡ true → a ≡ true
first_true true b e = refl
first_true false b e = e

second_true : (a b : Bool) → (a && b) ≡ true → b ≡ true
second_true true b e = e
second_true false b e = absurd (both_kinds (sym e))

-- ---- one best node

of_all : (p : Node → Bool) (k : ℕ) (n : Node) (nodes : List Node) → list_all p nodes ≡ true → row_of nat_cmp node_number k nodes ≡ Some n → p n ≡ true
of_all p k n [] h e = absurd cc
of_all p k n (m ∷ nodes) h e =
    let front : p m ≡ true = first_true (p m) (list_all p nodes) h in
    let rest : list_all p nodes ≡ true = second_true (p m) (list_all p nodes) h in
    elim (is_eq (nat_cmp k m.number)) as (λ b. cond b (Some m) (row_of nat_cmp node_number k nodes) ≡ Some n → p n ≡ true) [
      | true ↦ λ same. ap p (sym (some_same m n same)) ∙ front
      | false ↦ λ found. of_all p k n nodes rest found
    ] e

as_good_of : (a b : Bool) → (not a || b) ≡ true → a ≡ true → b ≡ true
as_good_of true b h e = h
as_good_of false b h e = absurd (both_kinds (sym e))

one_number : (m n a b : ℕ) → (nat_lt m n || (nat_eq m n && nat_le a b)) ≡ true → (nat_lt n m || (nat_eq n m && nat_le b a)) ≡ true → a ≡ b
one_number m n a b g h = grind arith

one_best : (s : State) (cs : List Claim) (g : Group) (n m : Node) → IsBest s cs g n → IsBest s cs g m → n ≡ m
one_best s cs g n m a b =
    let here = as_good_of _ _ (of_all (λ x. not (has_room_for cs g x) || is_as_good cs g n x) m.number m s.nodes a.best b.there) b.fits in
    let there = as_good_of _ _ (of_all (λ x. not (has_room_for cs g x) || is_as_good cs g m x) n.number n s.nodes b.best a.there) a.fits in
    let number : n.number ≡ m.number = one_number (fullness_with cs g m) (fullness_with cs g n) n.number m.number here there in
    some_same n m (sym a.there ∙ ap (λ k. row_of nat_cmp node_number k s.nodes) number ∙ b.there)

not_nowhere : (s : State) (cs : List Claim) (g : Group) (n : Node) → fits_nowhere s cs g ≡ true → IsBest s cs g n → ⊥
not_nowhere s cs g n none best =
    both_kinds (sym (of_all (λ x. not (has_room_for cs g x)) n.number n s.nodes none best.there) ∙ ap not best.fits)

-- ---- one next part, and one whole

one_next : (s : State) (job : List ℕ) (w : WantedName) (p a b : PlanPart) → IsNext s job w p a → IsNext s job w p b → a ≡ b
one_next s job w p a b (inl g) (inl h) = g.1 ∙ sym h.1
one_next s job w p a b (inl g) (inr h) = absurd (not_nowhere s _ w.group h.0 g.0 h.1)
one_next s job w p a b (inr g) (inl h) = absurd (not_nowhere s _ w.group g.0 h.0 g.1)
one_next s job w p a b (inr g) (inr h) = g.2 ∙ ap (λ n. with_place w n (with_stop (live_of_name s job w) p)) (one_best s _ w.group g.0 h.0 g.1 h.1) ∙ sym h.2

one_whole : (s : State) (job : List ℕ) (p q : PlanPart) (ws : List WantedName) (a b : PlanPart) → p ≡ q → GoesOn s job p ws a → GoesOn s job q ws b → a ≡ b
one_whole s job p q [] a b e g h = g ∙ e ∙ sym h
one_whole s job p q (w ∷ ws) a b e (inl g) (inl h) = g.1 ∙ e ∙ sym h.1
one_whole s job p q (w ∷ ws) a b e (inl g) (inr h) = absurd (both_kinds (sym g.0 ∙ ap is_full e ∙ h.0))
one_whole s job p q (w ∷ ws) a b e (inr g) (inl h) = absurd (both_kinds (sym h.0 ∙ ap is_full (sym e) ∙ g.0))
one_whole s job p q (w ∷ ws) a b e (inr g) (inr h) =
    one_whole s job g.1.0 h.1.0 ws a b (one_next s job w q g.1.0 h.1.0 (subst (λ z. IsNext s job w z g.1.0) e g.1.1) h.1.1) g.1.2 h.1.2

pub one_plan : OnePlan
one_plan s e index p q a b =
    let whole : a.whole ≡ b.whole = one_whole s e.job (first_part s e.job) (first_part s e.job) (missing_names s e.job) a.whole b.whole refl a.goes_on b.goes_on in
    let places : p.places ≡ q.places = a.places ∙ ap (λ (z : PlanPart). map unsized z.places) whole ∙ sym b.places in
    let all : p.all_placed ≡ q.all_placed = a.all_placed ∙ ap (λ ks. nat_eq (length ks) (length (missing_names s e.job))) places ∙ sym b.all_placed in
    λ i. record {
      stops = (a.stops ∙ ap (λ (z : PlanPart). z.stops) whole ∙ sym b.stops) i;
      places = places i;
      version = (a.version ∙ sym b.version) i;
      snapshot = (a.snapshot ∙ sym b.snapshot) i;
      all_placed = all i;
    }

-- ---- one step

step_with : (s : State) (index plans : ℕ) (d : Delivery) (e : Evaluation) (a b : WorkerStep) → IsStepWith s index plans d e a → IsStepWith s index plans d e b → a ≡ b
step_with s index plans d e a b (inl g) (inl h) = g.1 ∙ sym h.1
step_with s index plans d e a b (inl g) (inr h) = absurd (both_kinds (sym g.0 ∙ h.0))
step_with s index plans d e a b (inr g) (inl h) = absurd (both_kinds (sym h.0 ∙ g.0))
step_with s index plans d e a b (inr g) (inr h) = g.1.2 ∙ ap (after_plan d e) (one_plan s e index g.1.0 h.1.0 g.1.1 h.1.1) ∙ sym h.1.2

step_with_row : (s : State) (index plans : ℕ) (d : Delivery) (o : Option Evaluation) (a b : WorkerStep) → IsStepWithRow s index plans d o a → IsStepWithRow s index plans d o b → a ≡ b
step_with_row s index plans d None a b g h = g ∙ sym h
step_with_row s index plans d (Some e) a b g h = step_with s index plans d e a b g h

step_on : (s : State) (index plans : ℕ) (d : Delivery) (a b : WorkerStep) → IsStepOn s index plans d a → IsStepOn s index plans d b → a ≡ b
step_on s index plans d a b (inl g) (inl h) = g.1 ∙ sym h.1
step_on s index plans d a b (inl g) (inr h) = absurd (both_kinds (sym g.0 ∙ h.0))
step_on s index plans d a b (inr g) (inl h) = absurd (both_kinds (sym h.0 ∙ g.0))
step_on s index plans d a b (inr g) (inr h) = step_with_row s index plans d (eval_of d.eval s) a b g.1 h.1

step_on_delivery : (s : State) (index plans : ℕ) (o : Option Delivery) (a b : WorkerStep) → IsStepOnDelivery s index plans o a → IsStepOnDelivery s index plans o b → a ≡ b
step_on_delivery s index plans None a b g h = g ∙ sym h
step_on_delivery s index plans (Some d) a b g h = step_on s index plans d a b g h

pub one_step : OneStep
one_step s index (Delivered what) plans a b g h = step_on_delivery s index plans what a b g h
one_step s index (PlanResult r) plans a b g h = step_on s index plans (record { eval = r.eval; token = r.token; wait = r.last }) a b g h
one_step s index (Refused asked reason) plans a b g h = g ∙ sym h

-- ---- limits

pub record IsSmall (p : PlanPart) : Type 0 where
  pub stops : length p.stops ≤ 64
  pub places : length p.places ≤ 64

not_full : (a b : ℕ) → (nat_le 64 a || nat_le 64 b) ≡ false → (a < 64) × (b < 64)
not_full a b e = (grind arith, grind arith)

few_taken : {A : Type 0} (n : ℕ) (xs : List A) → length (take n xs) ≤ n
few_taken zero xs = omega arith
few_taken (suc n) [] = omega arith
few_taken (suc n) (x ∷ xs) = let rest = few_taken n xs in omega (arith, rest)

few_stops : (o : Option Allocation) (p : PlanPart) → length p.stops < 64 → length (with_stop o p).stops ≤ 64
few_stops None p lt = omega (arith, lt)
few_stops (Some a) p lt = let longer = length_push p.stops a.id in omega (arith, lt, longer)

same_places : (o : Option Allocation) (p : PlanPart) → (with_stop o p).places ≡ p.places
same_places None p = refl
same_places (Some a) p = refl

small_next : (s : State) (job : List ℕ) (w : WantedName) (p q : PlanPart) → IsSmall p → is_full p ≡ false → IsNext s job w p q → IsSmall q
small_next s job w p q small more (inl g) = subst IsSmall (sym g.1) small
small_next s job w p q small more (inr g) =
    let lt = not_full (length p.stops) (length p.places) more in
    let o = live_of_name s job w in
    let stops = few_stops o p lt.0 in
    let places = length_push (with_stop o p).places (place_on w g.0) in
    let same : length (with_stop o p).places ≡ length p.places = ap length (same_places o p) in
    subst IsSmall (sym g.2) (record { stops = stops; places = omega (arith, places, same, lt.1) })

small_whole : (s : State) (job : List ℕ) (p : PlanPart) (ws : List WantedName) (whole : PlanPart) → IsSmall p → GoesOn s job p ws whole → IsSmall whole
small_whole s job p [] whole small g = subst IsSmall (sym g) small
small_whole s job p (w ∷ ws) whole small (inl g) = subst IsSmall (sym g.1) small
small_whole s job p (w ∷ ws) whole small (inr g) = small_whole s job g.1.0 ws whole (small_next s job w p g.1.0 small g.0 g.1.1) g.1.2

pub small_plan : (s : State) (job : List ℕ) (whole : PlanPart) → GoesOn s job (first_part s job) (missing_names s job) whole → IsSmall whole
small_plan s job whole g = small_whole s job (first_part s job) (missing_names s job) whole (record { stops = few_taken 64 _; places = omega arith }) g
