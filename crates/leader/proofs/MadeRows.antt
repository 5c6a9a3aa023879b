-- Evaluations that were made to touch jobs: those of the entry's slots.
use Rattle.std.proofs.Common.{◌≡◌, ℕ, zero, suc, ◌+◌, ◌<◌, ◌≤◌, Bool, true, false, cond, ◌||◌, T, List, [], ◌∷◌, ◌++◌, length, Option, Some, None, refl, sym, ap, subst, ◌∙◌, arith}
use Rattle.std.specs.Prelude.{nat_lt}
use Rattle.std.specs.List.{AllByRecursion, list_any}
use Rattle.std.specs.Ordering.{is_eq}
use Rattle.std.specs.Cmp.{tied_itself}
use Rattle.std.proofs.lemmas.List.Folds.{list_any-append}
use Rattle.rows.specs.declared.job.Job.{Job}
use Rattle.rows.specs.declared.evaluation.EvalId.{EvalId}
use Rattle.rows.specs.declared.evaluation.Evaluation.{Evaluation}
use Rattle.rows.specs.Keys.{eval_cmp, eval_id}
use Rattle.rows.specs.Rising.{is_rising}
use Rattle.rows.proofs.KeyLaws.{eval_cmp_total}
use Rattle.fsm_tables.specs.Rows.{row_of, has_row, put, put_within}
use Rattle.fsm_tables.proofs.RowLaws.{equal, some_none, row_of-put, rising_put_within, length-put}
use Rattle.fsm_tables.proofs.ReservedTables.{found_tied}
use Rattle.fsm_state.proofs.StepLaws.{row_tied}
use Rattle.rows.specs.Limits.{most_evals}
use Rattle.fsm_model.specs.Words.{State}
use Rattle.fsm_model.specs.Effect.{new_eval, with_evals}
use Rattle.leader.specs.Inner.Changes.{IsRowOf, TouchChanged, row_if_any}
use Rattle.leader.proofs.Tables.{found_again}

abbrev pub slot_id : ℕ → ℕ → EvalId
slot_id x slot = record { index = x; slot = slot }

abbrev find : EvalId → List Evaluation → Option Evaluation
find id evals = row_of eval_cmp eval_id id evals

-- the rows in the slots below this one
abbrev pub made_below : ℕ → List Evaluation → ℕ → List Evaluation
made_below x evals zero = []
made_below x evals (suc n) = made_below x evals n ++ row_if_any (find (slot_id x n) evals)

-- ---- what touching leaves

-- a row stays
stays : (id : EvalId) (e : Evaluation) (evals : List Evaluation) → find id (put_within eval_cmp eval_id most_evals e evals) ≡ None → find id evals ≡ None
stays id e evals none =
    elim (has_row eval_cmp eval_id e.id evals || nat_lt (length evals) most_evals) as (λ b. find id (cond b (put eval_cmp eval_id e evals) evals) ≡ None → find id evals ≡ None) [
      | true ↦ λ h. by (is_eq (eval_cmp id e.id)) (sym (row_of-put eval_cmp eval_id eval_cmp_total id e evals) ∙ h)
      | false ↦ λ h. h
    ] none
  where
    by : (b : Bool) → cond b (Some e) (find id evals) ≡ None → find id evals ≡ None
    by true h = absurd (some_none e h)
    by false h = h

all_stay : (id : EvalId) (x slot : ℕ) (jobs : List Job) (evals : List Evaluation) → find id (with_evals x slot jobs evals) ≡ None → find id evals ≡ None
all_stay id x slot [] evals h = h
all_stay id x slot (j ∷ jobs) evals h = stays id (new_eval x slot j) evals (all_stay id x (slot + 1) jobs (put_within eval_cmp eval_id most_evals (new_eval x slot j) evals) h)

-- an id of none of the slots finds what it found
apart : (id : EvalId) (x slot : ℕ) (jobs : List Job) (evals : List Evaluation) → ((k : ℕ) → k < length jobs → is_eq (eval_cmp id (slot_id x (slot + k))) ≡ false) → find id (with_evals x slot jobs evals) ≡ find id evals
apart id x slot [] evals h = refl
apart id x slot (j ∷ jobs) evals h =
    apart id x (slot + 1) jobs (put_within eval_cmp eval_id most_evals (new_eval x slot j) evals) (λ k lt. let next : slot + suc k ≡ slot + 1 + k = omega arith in ap (λ n. is_eq (eval_cmp id (slot_id x n))) (sym next) ∙ h (suc k) (omega arith))
    ∙ elim (has_row eval_cmp eval_id (slot_id x slot) evals || nat_lt (length evals) most_evals) as (λ b. find id (cond b (put eval_cmp eval_id (new_eval x slot j) evals) evals) ≡ find id evals) [
      | true ↦ row_of-put eval_cmp eval_id eval_cmp_total id (new_eval x slot j) evals ∙ ap (λ b. cond b (Some (new_eval x slot j)) (find id evals)) here
      | false ↦ refl
    ]
  where
    here : is_eq (eval_cmp id (slot_id x slot)) ≡ false
    here = let same : slot + 0 ≡ slot = omega arith in ap (λ n. is_eq (eval_cmp id (slot_id x n))) (sym same) ∙ h 0 (omega arith)

-- ---- the slots are filled without a gap, unless the table is full

longer : (e : Evaluation) (evals : List Evaluation) → T (is_rising eval_cmp eval_id evals) → length evals ≤ length (put_within eval_cmp eval_id most_evals e evals)
longer e evals h =
    elim (has_row eval_cmp eval_id e.id evals || nat_lt (length evals) most_evals) as (λ b. length evals ≤ length (cond b (put eval_cmp eval_id e evals) evals)) [
      | true ↦ subst (λ (n : ℕ). length evals ≤ n) (sym (length-put eval_cmp eval_id eval_cmp_total e evals h)) (by (has_row eval_cmp eval_id e.id evals))
      | false ↦ omega arith
    ]
  where
    by : (b : Bool) → length evals ≤ cond b (length evals) (length evals + 1)
    by true = omega arith
    by false = omega arith

all_longer : (x slot : ℕ) (jobs : List Job) (evals : List Evaluation) → T (is_rising eval_cmp eval_id evals) → length evals ≤ length (with_evals x slot jobs evals)
all_longer x slot [] evals h = omega arith
all_longer x slot (j ∷ jobs) evals h =
    let e = new_eval x slot j in
    let one : length evals ≤ length (put_within eval_cmp eval_id most_evals e evals) = longer e evals h in
    let rest : length (put_within eval_cmp eval_id most_evals e evals) ≤ length (with_evals x (slot + 1) jobs (put_within eval_cmp eval_id most_evals e evals)) = all_longer x (slot + 1) jobs _ (rising_put_within eval_cmp eval_id eval_cmp_total most_evals e evals h) in
    omega (arith, one, rest)

-- a slot that could be filled is
filled : (x slot : ℕ) (j : Job) (evals : List Evaluation) → length evals < most_evals → find (slot_id x slot) (put_within eval_cmp eval_id most_evals (new_eval x slot j) evals) ≡ None → ⊥
filled x slot j evals lt none =
    elim (has_row eval_cmp eval_id (slot_id x slot) evals || nat_lt (length evals) most_evals) as (λ b. (has_row eval_cmp eval_id (slot_id x slot) evals || nat_lt (length evals) most_evals) ≡ b → find (slot_id x slot) (cond b (put eval_cmp eval_id (new_eval x slot j) evals) evals) ≡ None → ⊥) [
      | true ↦ λ p h. some_none (new_eval x slot j) (sym here ∙ h)
      | false ↦ λ p h. full (has_row eval_cmp eval_id (slot_id x slot) evals) (nat_lt (length evals) most_evals) below p
    ] refl none
  where
    here : find (slot_id x slot) (put eval_cmp eval_id (new_eval x slot j) evals) ≡ Some (new_eval x slot j)
    here = row_of-put eval_cmp eval_id eval_cmp_total (slot_id x slot) (new_eval x slot j) evals ∙ ap (λ r. cond (is_eq r) (Some (new_eval x slot j)) (find (slot_id x slot) evals)) (tied_itself eval_cmp_total (slot_id x slot))

    below : nat_lt (length evals) most_evals ≡ true
    below = grind (arith, lt)

    full : (a b : Bool) → b ≡ true → (a || b) ≡ false → ⊥
    full true b e p = absurd cc
    full false b e p = absurd cc

no_gap : (x slot a : ℕ) (jobs : List Job) (evals : List Evaluation) → T (is_rising eval_cmp eval_id evals) → length (with_evals x slot jobs evals) < most_evals → find (slot_id x (slot + a)) (with_evals x slot jobs evals) ≡ None → length jobs ≤ a
no_gap x slot a [] evals h lt none = omega arith
no_gap x slot zero (j ∷ jobs) evals h lt none =
    let e = new_eval x slot j in
    let after = put_within eval_cmp eval_id most_evals e evals in
    let size : length evals ≤ length (with_evals x (slot + 1) jobs after) = all_longer x slot (j ∷ jobs) evals h in
    let same : slot + 0 ≡ slot = omega arith in
    absurd (filled x slot j evals (omega (arith, size, lt)) (all_stay (slot_id x slot) x (slot + 1) jobs after (subst (λ (n : ℕ). find (slot_id x n) (with_evals x (slot + 1) jobs after) ≡ None) same none)))
no_gap x slot (suc a) (j ∷ jobs) evals h lt none =
    let e = new_eval x slot j in
    let after = put_within eval_cmp eval_id most_evals e evals in
    let next : slot + suc a ≡ slot + 1 + a = omega arith in
    let rest : length jobs ≤ a = no_gap x (slot + 1) a jobs after (rising_put_within eval_cmp eval_id eval_cmp_total most_evals e evals h) lt (subst (λ (n : ℕ). find (slot_id x n) (with_evals x (slot + 1) jobs after) ≡ None) next none) in
    omega (arith, rest)

-- ---- the rows in the slots

all_with : (P : Evaluation → Type 0) (xs ys : List Evaluation) → AllByRecursion P xs → AllByRecursion P ys → AllByRecursion P (xs ++ ys)
all_with P [] ys g h = h
all_with P (x ∷ xs) ys g h = (g.0, all_with P xs ys g.1 h)

each_is : (x : ℕ) (evals : List Evaluation) (n : ℕ) → AllByRecursion (IsRowOf evals) (made_below x evals n)
each_is x evals zero = tt
each_is x evals (suc n) = all_with (IsRowOf evals) (made_below x evals n) _ (each_is x evals n)
    (elim (find (slot_id x n) evals) as (λ m. find (slot_id x n) evals ≡ m → AllByRecursion (IsRowOf evals) (row_if_any m)) [
      | None ↦ λ e. tt
      | Some r ↦ λ e. (found_again eval_cmp eval_id eval_cmp_total (slot_id x n) r evals e, tt)
    ] refl)

or_true : (a : Bool) → (a || true) ≡ true
or_true true = refl
or_true false = refl

listed : (p : Evaluation → Bool) (x k : ℕ) (r : Evaluation) (evals : List Evaluation) (n : ℕ) → k < n → find (slot_id x k) evals ≡ Some r → p r ≡ true → list_any p (made_below x evals n) ≡ true
listed p x k r evals zero lt e is = absurd (omega (arith, lt))
listed p x k r evals (suc n) lt e is =
    list_any-append p (made_below x evals n) (row_if_any (find (slot_id x n) evals))
    ∙ elim (nat_lt k n) as (λ b. nat_lt k n ≡ b → (list_any p (made_below x evals n) || list_any p (row_if_any (find (slot_id x n) evals))) ≡ true) [
      | true ↦ λ q.
          let below : k < n = grind (arith, q) in
          ap (λ b. b || list_any p (row_if_any (find (slot_id x n) evals))) (listed p x k r evals n below e is)
      | false ↦ λ q.
          let same : k ≡ n = grind (arith, q, lt) in
          let there : find (slot_id x n) evals ≡ Some r = subst (λ (m : ℕ). find (slot_id x m) evals ≡ Some r) same e in
          ap (λ (m : Option Evaluation). list_any p (made_below x evals n) || list_any p (row_if_any m)) there
          ∙ ap (λ b. list_any p (made_below x evals n) || (b || false)) is
          ∙ or_true (list_any p (made_below x evals n))
    ] refl

-- ---- where all slots were looked at in which a row can have been made
covered : (x n : ℕ) (jobs : List Job) (before : List Evaluation) → length jobs ≤ n → (id : EvalId) → list_any (λ (e : Evaluation). is_eq (eval_cmp id e.id)) (made_below x (with_evals x 0 jobs before) n) ≡ false
    → find id (with_evals x 0 jobs before) ≡ find id before
covered x n jobs before le id none =
    elim (find id after) as (λ m. find id after ≡ m → m ≡ find id before) [
      | None ↦ λ e. sym (all_stay id x 0 jobs before e)
      | Some r ↦ λ e. sym e ∙ apart id x 0 jobs before (λ k lt. let same : 0 + k ≡ k = omega arith in ap (λ m. is_eq (eval_cmp id (slot_id x m))) same ∙ other r e k lt (is_eq (eval_cmp id (slot_id x k))) refl)
    ] refl
  where
    after : List Evaluation
    after = with_evals x 0 jobs before

    other : (r : Evaluation) → find id after ≡ Some r → (k : ℕ) → k < length jobs → (b : Bool) → is_eq (eval_cmp id (slot_id x k)) ≡ b → b ≡ false
    other r e k lt true q =
        let there : find (slot_id x k) after ≡ Some r = sym (row_tied eval_cmp eval_id eval_cmp_total id (slot_id x k) (equal _ (subst T (sym q) tt)) after) ∙ e in
        let is = ap is_eq (found_tied eval_cmp eval_id eval_cmp_total id after r e) in
        sym (listed (λ (y : Evaluation). is_eq (eval_cmp id y.id)) x k r after n (omega (arith, lt, le)) there is) ∙ none
    other r e k lt false q = refl

-- after the last slot, or at the first that is empty in a table that isn't full
pub looked_at : (s : State) (n : ℕ) → (256 ≤ n) → TouchChanged s (made_below s.count s.evals n)
looked_at s n all jobs before some few rising is = record {
  each = each_is s.count s.evals n;
  others = subst (λ (evals : List Evaluation). (id : EvalId) → list_any (λ (e : Evaluation). is_eq (eval_cmp id e.id)) (made_below s.count evals n) ≡ false → find id evals ≡ find id before) (sym is)
      (covered s.count n jobs before (omega (arith, few, all)));
}

pub stopped_at : (s : State) (n : ℕ) → find (slot_id s.count n) s.evals ≡ None → length s.evals < 65536 → TouchChanged s (made_below s.count s.evals n)
stopped_at s n none lt jobs before some few rising is = let same : n ≡ 0 + n = omega arith in record {
  each = each_is s.count s.evals n;
  others = subst (λ (evals : List Evaluation). (id : EvalId) → list_any (λ (e : Evaluation). is_eq (eval_cmp id e.id)) (made_below s.count evals n) ≡ false → find id evals ≡ find id before) (sym is)
      (covered s.count n jobs before (no_gap s.count 0 n jobs before rising (subst (λ (evals : List Evaluation). length evals < 65536) is lt) (subst (λ (m : ℕ). find (slot_id s.count m) (with_evals s.count 0 jobs before) ≡ None) same (subst (λ (evals : List Evaluation). find (slot_id s.count n) evals ≡ None) is none))));
}
