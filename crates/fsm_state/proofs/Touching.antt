-- Jobs that are touched: the rows of names, looked up one by one.
use Rattle.std.proofs.Common.{◌≡◌, ℕ, ◌+◌, ◌≤◌, ◌||◌, ◌&&◌, Bool, true, false, cond, T, List, [], ◌∷◌, length, is_some, Option, Some, None, refl, sym, ap, subst, ◌∙◌, arith}
use Rattle.std.specs.Prelude.{filter, bytes_eq}
use Rattle.std.specs.List.{cons_option}
use Rattle.std.specs.List.Sorted.{IsStrictlySortedBy}
use Rattle.std.specs.BTreeSet.{BTreeSet, IsOrdered, Updates, contains}
use Rattle.std.specs.Ordering.{is_eq}
use Rattle.std.specs.Cmp.Lexicographic.{nat_list_cmp_total}
use Rattle.std.proofs.lemmas.Map.Lookups.{exact_bytes}
use Rattle.std.proofs.lemmas.Map.Text.{is_eq-slice_cmp}
use Rattle.rows.specs.declared.job.Job.{Job}
use Rattle.rows.specs.declared.evaluation.Evaluation.{Evaluation}
use Rattle.rows.specs.declared.allocation.Allocation.{Allocation}
use Rattle.rows.specs.Keys.{name_cmp, job_name}
use Rattle.rows.specs.Rising.{is_rising}
use Rattle.fsm_tables.specs.Rows.{row_of, has_row}
use Rattle.fsm_tables.proofs.Filters.{found_at, under_are_filtered}
use Rattle.fsm_model.specs.Words.{State}
use Rattle.fsm_model.specs.Effect.{with_evals, evaluations_created, is_named, owns}
use Rattle.fsm_model.proofs.Lists.{or_false}
use Rattle.fsm_model.proofs.Keys.{names_turn}
use Rattle.fsm_model.proofs.RangeLaws.{no_more}
use Rattle.fsm_state.specs.Inner.Steps.{is_named_in, has_name, jobs_at, owners, AddsNames}

-- whether a job's name is one of these
abbrev pub is_one_of : List (List ℕ) → Job → Bool
is_one_of names j = has_name names j.name

-- ---- the rows of names

-- a set's names, looked up in their order, find the rows of the names
pub jobs_are : (names : BTreeSet (List ℕ)) (jobs : List Job) → T (is_rising name_cmp job_name jobs) → IsOrdered name_cmp names → jobs_at jobs names.keys ≡ filter (is_named_in names) jobs
jobs_are names jobs rising sorted =
    under_are_filtered name_cmp job_name exact_bytes nat_list_cmp_total jobs (is_named_in names) names.keys rising sorted
    (λ q x e. ap (contains name_cmp names) (sym (found_at name_cmp job_name exact_bytes q x jobs e)))

alone : (name : List ℕ) → IsStrictlySortedBy name_cmp (name ∷ [])
unfolding IsStrictlySortedBy
alone name = (tt, tt)

-- a name is that of one row, or of none
pub named_row : (name : List ℕ) (jobs : List Job) → T (is_rising name_cmp job_name jobs) → jobs_at jobs (name ∷ []) ≡ filter (is_named name) jobs
named_row name jobs rising =
    under_are_filtered name_cmp job_name exact_bytes nat_list_cmp_total jobs (is_named name) (name ∷ []) rising (alone name) (λ q x e.
    or_false (is_eq (name_cmp q name))
    ∙ ap (λ k. is_eq (name_cmp k name)) (sym (found_at name_cmp job_name exact_bytes q x jobs e))
    ∙ is_eq-slice_cmp x.name name)

one_or_none : (r : Option Job) → length (cons_option r []) ≡ cond (is_some r) 1 0
one_or_none None = refl
one_or_none (Some j) = refl

pub named_once : (name : List ℕ) (jobs : List Job) → T (is_rising name_cmp job_name jobs) → length (filter (is_named name) jobs) ≡ cond (has_row name_cmp job_name name jobs) 1 0
named_once name jobs rising = ap length (sym (named_row name jobs rising)) ∙ one_or_none (row_of name_cmp job_name name jobs)

-- what is found is no more than the rows
pub few_at : (those : Job → Bool) (jobs js : List Job) → js ≡ filter those jobs → length jobs ≤ 256 → (length js ≤ length jobs) × (length js ≤ 256)
few_at those jobs js e few =
    let most : length js ≤ length jobs = subst (λ ks. length ks ≤ length jobs) (sym e) (no_more those jobs) in
    (most, omega (arith, most, few))

-- the one row of a name is touched
pub touched_found : (name : List ℕ) (r : Option Job) (s : State) → T (is_rising name_cmp job_name s.jobs) → row_of name_cmp job_name name s.jobs ≡ r
    → record s { evals = with_evals s.count 0 (cons_option r []) s.evals } ≡ evaluations_created (is_named name) s
touched_found name r s rising e =
    ap (λ js. record s { evals = with_evals s.count 0 js s.evals }) (ap (λ q. cons_option q []) (sym e) ∙ named_row name s.jobs rising)

-- ---- names that are added

one_more : (old is rest : Bool) → (cond is true old || rest) ≡ (old || (is || rest))
one_more true true rest = refl
one_more true false rest = refl
one_more false true rest = refl
one_more false false rest = refl

pub name_added : (name : List ℕ) (old new : BTreeSet (List ℕ)) → Updates name_cmp old new name true → AddsNames (λ rest. name ∷ rest) old new
name_added name old new u q rest =
    ap (λ b. b || has_name rest q) (u.0 q ∙ ap (λ b. cond b true (contains name_cmp old q)) (is_eq-slice_cmp name q ∙ names_turn name q))
    ∙ one_more (contains name_cmp old q) (bytes_eq q name) (has_name rest q)

-- the jobs of the rows that pass
pub owners_listed : (which : Allocation → Bool) (rows : List Allocation) (j : Job) → is_one_of (owners (filter which rows)) j ≡ owns which rows j
owners_listed which [] j = refl
owners_listed which (a ∷ rows) j =
    elim (which a) as (λ b. is_one_of (owners (cond b (a ∷ filter which rows) (filter which rows))) j ≡ ((b && bytes_eq a.job j.name) || owns which rows j)) [
      | true ↦ (λ i. names_turn j.name a.job i || owners_listed which rows j i)
      | false ↦ owners_listed which rows j
    ]

-- ---- a loop over names touches their jobs

-- what the loop over the names keeps
pub record Kept (x : ℕ) (all : List Evaluation) (s0 t : State) (slot : ℕ) (names : List (List ℕ)) : Type 0 where
  pub same : t ≡ record s0 { evals = t.evals }
  pub evals : with_evals x slot (jobs_at s0.jobs names) t.evals ≡ all
  pub slots : slot + length (jobs_at s0.jobs names) ≤ 256
