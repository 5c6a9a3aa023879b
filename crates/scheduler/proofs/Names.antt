-- Wanted names, group after group and index after index.
use Rattle.std.proofs.Common.{◌≡◌, ℕ, zero, suc, ◌+◌, Bool, true, false, cond, not, ◌&&◌, ◌||◌, List, [], ◌∷◌, ◌++◌, map, filter, take, Option, Some, None, refl, sym, ap, ◌∙◌, arith}
use Rattle.std.specs.Prelude.{nat_eq, nat_le, nat_lt, bytes_eq}
use Rattle.std.specs.List.{list_any}
use Rattle.std.proofs.lemmas.List.Folds.{list_any-append}
use Rattle.std.proofs.lemmas.List.{append_assoc}
use Rattle.rows.specs.declared.job.Group.{Group}
use Rattle.rows.specs.declared.job.Job.{Job}
use Rattle.rows.specs.declared.allocation.AllocId.{AllocId}
use Rattle.rows.specs.declared.allocation.Allocation.{Allocation}
use Rattle.fsm_tables.specs.Lookups.{lives_for}
use Rattle.fsm_model.specs.Words.{State, job_of}
use Rattle.fsm_model.proofs.Lists.{filter_both}
use Rattle.group_model.specs.Scheduling.{WantedName, names_from, names_of_groups, wanted_names, is_of_name, unwanted_stops}
use Rattle.scheduler.specs.Inner.Names.{wanted_groups}
use Rattle.scheduler.specs.Inner.Growing.{is_not_wanted, first_unwanted}

-- ---- by groups

pub names_by_groups : (o : Option Job) → wanted_names o ≡ names_of_groups (wanted_groups o)
names_by_groups None = refl
names_by_groups (Some j) = elim j.stopped as (λ b. cond b [] (names_of_groups j.groups) ≡ names_of_groups (cond b [] j.groups)) [ true ↦ refl | false ↦ refl ]

-- ---- whether a name is wanted

none_between : (i x : ℕ) → (nat_le i x && nat_lt x (i + 0)) ≡ false
none_between i x = grind arith

one_or_rest : (i n x : ℕ) → (nat_eq x i || (nat_le (i + 1) x && nat_lt x (i + 1 + n))) ≡ (nat_le i x && nat_lt x (i + suc n))
one_or_rest i n x = grind arith

pub any_from : (a : Allocation) (g : Group) (i n : ℕ) → list_any (is_of_name a) (names_from g i n) ≡ (bytes_eq a.group g.name && (nat_le i a.index && nat_lt a.index (i + n)))
any_from a g i zero = elim (bytes_eq a.group g.name) as (λ b. false ≡ (b && (nat_le i a.index && nat_lt a.index (i + 0)))) [
  | true ↦ sym (none_between i a.index)
  | false ↦ refl
]
any_from a g i (suc n) =
    ap (λ rest. (bytes_eq a.group g.name && nat_eq a.index i) || rest) (any_from a g (i + 1) n)
    ∙ elim (bytes_eq a.group g.name) as (λ b. ((b && nat_eq a.index i) || (b && (nat_le (i + 1) a.index && nat_lt a.index (i + 1 + n)))) ≡ (b && (nat_le i a.index && nat_lt a.index (i + suc n)))) [
      | true ↦ one_or_rest i n a.index
      | false ↦ refl
    ]

from_zero : (x n : ℕ) → (nat_le 0 x && nat_lt x (0 + n)) ≡ nat_lt x n
from_zero x n = grind arith

-- the first of the groups, or one of the rest
pub any_of_groups : (a : Allocation) (g : Group) (gs : List Group) → list_any (is_of_name a) (names_of_groups (g ∷ gs)) ≡ ((bytes_eq a.group g.name && nat_lt a.index g.count) || list_any (is_of_name a) (names_of_groups gs))
any_of_groups a g gs =
    list_any-append (is_of_name a) (names_from g 0 g.count) (names_of_groups gs)
    ∙ ap (λ b. b || list_any (is_of_name a) (names_of_groups gs)) (any_from a g 0 g.count ∙ ap (λ b. bytes_eq a.group g.name && b) (from_zero a.index g.count))

-- ---- those of a group that pass, from an index on

module _ (p : WantedName → Bool) (g : Group) where
  abbrev left : ℕ → ℕ → List WantedName
  left i n = filter p (names_from g i n)

  pub kept_next : (names : List WantedName) (i n m : ℕ) → n ≡ suc m → p (record { group = g; index = i }) ≡ true → (names ++ record { group = g; index = i } ∷ []) ++ left (i + 1) m ≡ names ++ left i n
  kept_next names i n m e pass =
      append_assoc names (record { group = g; index = i } ∷ []) (left (i + 1) m)
      ∙ ap (λ b. names ++ cond b (record { group = g; index = i } ∷ left (i + 1) m) (left (i + 1) m)) (sym pass)
      ∙ ap (λ k. names ++ left i k) (sym e)

  pub passed_next : (names : List WantedName) (i n m : ℕ) → n ≡ suc m → p (record { group = g; index = i }) ≡ false → names ++ left (i + 1) m ≡ names ++ left i n
  passed_next names i n m e pass =
      ap (λ b. names ++ cond b (record { group = g; index = i } ∷ left (i + 1) m) (left (i + 1) m)) (sym pass)
      ∙ ap (λ k. names ++ left i k) (sym e)

-- ---- the ids of those that no group wants

abbrev pub unwanted_ids : List Group → List Allocation → List AllocId
unwanted_ids groups rows = map (λ (a : Allocation). a.id) (filter (is_not_wanted groups) rows)

pub unwanted_row : (groups : List Group) (a : Allocation) (rows : List Allocation) → list_any (is_of_name a) (names_of_groups groups) ≡ false → unwanted_ids groups (a ∷ rows) ≡ a.id ∷ unwanted_ids groups rows
unwanted_row groups a rows e = ap (λ b. map (λ (x : Allocation). x.id) (cond (not b) (a ∷ filter (is_not_wanted groups) rows) (filter (is_not_wanted groups) rows))) e

-- those of a job that live, and are not wanted, are those that live of it unwanted
pub unwanted_of_job : (s : State) (job : List ℕ) → first_unwanted (wanted_groups (job_of job s)) (filter (lives_for job) s.allocs) ≡ unwanted_stops s job
unwanted_of_job s job =
    ap (λ rows. take 64 (map (λ (a : Allocation). a.id) rows)) (filter_both (lives_for job) (is_not_wanted (wanted_groups (job_of job s))) s.allocs
    ∙ ap (λ names. filter (λ a. lives_for job a && not (list_any (is_of_name a) names)) s.allocs) (sym (names_by_groups (job_of job s))))
