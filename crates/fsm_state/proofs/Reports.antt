-- The jobs of the allocations that reports end, told from the rows as they are before the reports.
use Rattle.std.proofs.Common.{◌≡◌, ℕ, Bool, true, false, cond, not, T, ◌&&◌, ◌||◌, List, [], ◌∷◌, refl, sym, ap, ◌∙◌}
use Rattle.std.specs.Prelude.{nat_eq, bytes_eq}
use Rattle.std.specs.List.{list_any}
use Rattle.std.specs.Ordering.{is_eq}
use Rattle.rows.specs.declared.job.Job.{Job}
use Rattle.rows.specs.declared.allocation.Allocation.{Allocation}
use Rattle.rows.specs.declared.command.Report.{Report}
use Rattle.rows.specs.Keys.{alloc_cmp, alloc_id}
use Rattle.rows.specs.Rising.{is_rising}
use Rattle.fsm_tables.specs.Claims.{is_active, is_live}
use Rattle.fsm_model.specs.Words.{State, alloc_of, is_some_and, same_alloc}
use Rattle.fsm_model.specs.Effect.{owns, is_ended_by, client_state_of, told, told_all}
use Rattle.fsm_state.specs.Inner.Steps.{ended_now}
use Rattle.fsm_state.proofs.Touching.{is_one_of}
use Rattle.rows.proofs.KeyLaws.{alloc_cmp_total}
use Rattle.fsm_model.proofs.Lists.{anys_same, and_assoc}
use Rattle.fsm_state.proofs.StepLaws.{any_at}
use Rattle.fsm_model.proofs.Keys.{at_alloc}
use Rattle.fsm_state.proofs.StopLaws.{AreRising, live_stays, one_ended}

-- whether a report is of the allocation
abbrev pub is_told : List Report → Allocation → Bool
is_told rs a = list_any (λ r. same_alloc a.id r.id) rs

-- what no report is of stays
stays : (n : ℕ) (r : Report) (a : Allocation) → same_alloc a.id r.id ≡ false → told n r a ≡ a
stays n r a e = ap (λ b. cond (b && nat_eq a.node n && is_active a.client) (record a { client = client_state_of r.state }) a) e

pub untold : (n : ℕ) (rs : List Report) (a : Allocation) → is_told rs a ≡ false → told_all n rs a ≡ a
untold n [] a e = refl
untold n (r ∷ rs) a e =
    elim (same_alloc a.id r.id) as (λ b. same_alloc a.id r.id ≡ b → (b || is_told rs a) ≡ false → told_all n rs (told n r a) ≡ a) [
      | true ↦ λ t e. absurd cc
      | false ↦ λ t e. ap (told_all n rs) (stays n r a t) ∙ untold n rs a e
    ] refl e

ends_told : (n : ℕ) (rs : List Report) (a : Allocation) → is_ended_by (told_all n rs) a ≡ (is_told rs a && is_ended_by (told_all n rs) a)
ends_told n rs a =
    elim (is_told rs a) as (λ b. is_told rs a ≡ b → is_ended_by (told_all n rs) a ≡ (b && is_ended_by (told_all n rs) a)) [
      | true ↦ λ e. refl
      | false ↦ λ e. ap (λ z. is_live a && not (is_live z)) (untold n rs a e) ∙ live_stays (is_live a)
    ] refl

split : (s t p x y : Bool) → (((s || t) && p) || (x || y)) ≡ (((s && p) || x) || ((t && p) || y))
split true true true x y = refl
split true true false x y = refl
split true false true x y = refl
split true false false x y = refl
split false true true true y = refl
split false true true false y = refl
split false true false x y = refl
split false false p x y = refl

none_told : (p : Allocation → Bool) (rows : List Allocation) → list_any (λ a. is_told [] a && p a) rows ≡ false
none_told p [] = refl
none_told p (a ∷ rows) = none_told p rows

one_more : (p : Allocation → Bool) (r : Report) (rs : List Report) (rows : List Allocation)
    → list_any (λ a. is_told (r ∷ rs) a && p a) rows ≡ (list_any (λ a. same_alloc a.id r.id && p a) rows || list_any (λ a. is_told rs a && p a) rows)
one_more p r rs [] = refl
one_more p r rs (a ∷ rows) =
    ap (λ b. ((same_alloc a.id r.id || is_told rs a) && p a) || b) (one_more p r rs rows)
    ∙ split (same_alloc a.id r.id) (is_told rs a) (p a) (list_any (λ a. same_alloc a.id r.id && p a) rows) (list_any (λ a. is_told rs a && p a) rows)

-- a told row that passes is that of a report
pub told_rows : (p : Allocation → Bool) (rs : List Report) (s : State) → T (is_rising alloc_cmp alloc_id s.allocs) → list_any (λ a. is_told rs a && p a) s.allocs ≡ list_any (λ (r : Report). is_some_and p (alloc_of r.id s)) rs
told_rows p [] s h = none_told p s.allocs
told_rows p (r ∷ rs) s h =
    let here : list_any (λ a. same_alloc a.id r.id && p a) s.allocs ≡ is_some_and p (alloc_of r.id s) =
    anys_same (λ a. same_alloc a.id r.id && p a) (λ a. is_eq (alloc_cmp r.id a.id) && p a) (λ a. ap (λ b. b && p a) (sym (at_alloc r.id a))) s.allocs
    ∙ any_at alloc_cmp alloc_id alloc_cmp_total p r.id s.allocs h in
    one_more p r rs s.allocs
    ∙ (λ i. here i || told_rows p rs s h i)

ended_rows : (f : Allocation → Allocation) (rs : List Report) (s : State) (j : Job) → list_any (λ (r : Report). is_some_and (λ a. is_ended_by f a && bytes_eq a.job j.name) (alloc_of r.id s)) rs ≡ is_one_of (ended_now f rs s) j
ended_rows f [] s j = refl
ended_rows f (r ∷ rs) s j =
    ap (λ b. is_some_and (λ a. is_ended_by f a && bytes_eq a.job j.name) (alloc_of r.id s) || b) (ended_rows f rs s j)
    ∙ sym (one_ended f (alloc_of r.id s) (ended_now f rs s) j)

pub ended_are : (n : ℕ) (rs : List Report) (s : State) → AreRising s → (j : Job) → owns (is_ended_by (told_all n rs)) s.allocs j ≡ is_one_of (ended_now (told_all n rs) rs s) j
ended_are n rs s h j =
    anys_same (λ a. is_ended_by (told_all n rs) a && bytes_eq a.job j.name) (λ a. is_told rs a && (is_ended_by (told_all n rs) a && bytes_eq a.job j.name))
    (λ a. ap (λ b. b && bytes_eq a.job j.name) (ends_told n rs a) ∙ and_assoc (is_told rs a) (is_ended_by (told_all n rs) a) (bytes_eq a.job j.name)) s.allocs
    ∙ told_rows (λ a. is_ended_by (told_all n rs) a && bytes_eq a.job j.name) rs s h.allocs
    ∙ ended_rows (told_all n rs) rs s j
