-- What the code of admission asks of tables is what admission tests.
use Rattle.std.proofs.Common.{◌≡◌, ℕ, ◌+◌, ◌≤◌, Bool, true, false, cond, ◌&&◌, ◌||◌, List, [], ◌∷◌, Option, Some, None, is_some, refl, sym, ap, ◌∙◌, arith}
use Rattle.std.specs.Prelude.{nat_eq, nat_lt, sum_by, option_map}
use Rattle.std.specs.List.{AllByRecursion, list_any}
use Rattle.std.proofs.lemmas.List.Sums.{sum_by-cons}
use Rattle.std.specs.BTreeSet.{BTreeSet}
use Rattle.rows.specs.declared.job.Job.{Job}
use Rattle.rows.specs.declared.allocation.Allocation.{Allocation}
use Rattle.rows.specs.Fits.{AllocationFits}
use Rattle.rows.specs.Sizes.{Cpu}
use Rattle.fsm_tables.specs.Claims.{claim_of, claims, on_node, is_live}
use Rattle.fsm_tables.specs.Lookups.{lives_on}
use Rattle.fsm_model.specs.Words.{State}
use Rattle.fsm_model.specs.Admission.{evals_pass, those_jobs}
use Rattle.fsm_state.specs.Inner.Steps.{is_named_in}

pub mapped_some : {A B : Type 0} (f : A → B) (o : Option A) → is_some (option_map f o) ≡ is_some o
mapped_some f None = refl
mapped_some f (Some x) = refl

-- a node is in use where a live allocation names it
in_use : (live here : Bool) (cpu rest : ℕ) (any : Bool) → 1 ≤ cpu → nat_lt 0 rest ≡ any → nat_lt 0 (cond live (cond here cpu 0) 0 + rest) ≡ ((here && live) || any)
in_use true true cpu rest any le e = let some : nat_lt 0 (cpu + rest) ≡ true = grind arith in some
in_use true false cpu rest any le e = let same : 0 + rest ≡ rest = omega arith in ap (nat_lt 0) same ∙ e
in_use false true cpu rest any le e = let same : 0 + rest ≡ rest = omega arith in ap (nat_lt 0) same ∙ e
in_use false false cpu rest any le e = let same : 0 + rest ≡ rest = omega arith in ap (nat_lt 0) same ∙ e

abbrev cpu_on : ℕ → List Allocation → ℕ
cpu_on n rows = sum_by (on_node n Cpu) (claims rows)

one_more : (n : ℕ) (a : Allocation) (rows : List Allocation) → cpu_on n (a ∷ rows) ≡ cond (is_live a) (cond (nat_eq a.node n) a.size.cpu 0) 0 + cpu_on n rows
one_more n a rows = elim (is_live a) as (λ b. sum_by (on_node n Cpu) (cond b (claim_of a ∷ claims rows) (claims rows)) ≡ cond b (cond (nat_eq a.node n) a.size.cpu 0) 0 + cpu_on n rows) [
  | true ↦ sum_by-cons (on_node n Cpu) (claim_of a) (claims rows)
  | false ↦ omega arith
]

pub used_where_live : (n : ℕ) (rows : List Allocation) → AllByRecursion AllocationFits rows → nat_lt 0 (cpu_on n rows) ≡ list_any (lives_on n) rows
used_where_live n [] h = refl
used_where_live n (a ∷ rows) h = ap (nat_lt 0) (one_more n a rows) ∙ in_use (is_live a) (nat_eq a.node n) a.size.cpu (cpu_on n rows) (list_any (lives_on n) rows) h.0.5.0.0 (used_where_live n rows h.1)

-- jobs told by names
pub names_are : (those : Job → Bool) (names : BTreeSet (List ℕ)) (s : State) → ((j : Job) → those j ≡ is_named_in names j) → evals_pass (those_jobs (is_named_in names) s) s ≡ evals_pass (those_jobs those s) s
names_are those names s h = sym (λ i. evals_pass (those_jobs (λ j. h j i) s) s)
