-- The first of each job and group, with the groups that were met, and without those on the move.
use Rattle.std.proofs.Common.{◌≡◌, Bool, true, false, cond, ◌&&◌, ◌||◌, List, [], ◌∷◌, filter, Option, Some, is_some, refl, sym, ap, ◌∙◌}
use Rattle.std.specs.List.{list_any}
use Rattle.std.specs.Cmp.{IsTotalOrder, on_total, then_total}
use Rattle.std.specs.Cmp.Lexicographic.{nat_list_cmp_total}
use Rattle.std.specs.declared.cmp.Ordering.{Ordering}
use Rattle.std.specs.declared.cmp.Ordering.TheVariants.{Less, Equal, Greater}
use Rattle.std.specs.Ordering.{is_eq, ordering_then}
use Rattle.std.proofs.lemmas.Map.Text.{is_eq-slice_cmp}
use Rattle.std.proofs.lemmas.Map.Views.{any-filter_same}
use Rattle.rows.specs.declared.allocation.Allocation.{Allocation}
use Rattle.rows.specs.Keys.{name_cmp}
use Rattle.fsm_tables.specs.Rows.{row_of, put}
use Rattle.fsm_tables.proofs.RowLaws.{row_of-put}
use Rattle.group_model.specs.Drains.{same_group, firsts}
use Rattle.drain.specs.declared.group.JobGroup.{JobGroup}
use Rattle.drain.specs.Inner.Groups.{job_group, job_group_cmp, itself, is_met, firsts_but}

-- ---- lists

module _ {A : Type 0} where
  pub any_both : (p q : A → Bool) (xs : List A) → list_any q (filter p xs) ≡ list_any (λ x. p x && q x) xs
  any_both p q [] = refl
  any_both p q (x ∷ xs) = elim (p x) as (λ b. list_any q (cond b (x ∷ filter p xs) (filter p xs)) ≡ ((b && q x) || list_any (λ x. p x && q x) xs)) [
    | true ↦ ap (λ b. q x || b) (any_both p q xs)
    | false ↦ any_both p q xs
  ]

-- ---- groups that were met

two_keys : (r q : Ordering) → is_eq (ordering_then r q) ≡ (is_eq r && is_eq q)
two_keys Less q = refl
two_keys Equal q = refl
two_keys Greater q = refl

pub groups_total : IsTotalOrder job_group_cmp
groups_total = then_total (on_total (λ (g : JobGroup). g.job) nat_list_cmp_total) (on_total (λ (g : JobGroup). g.group) nat_list_cmp_total)

at_group : (a b : Allocation) → is_eq (job_group_cmp (job_group a) (job_group b)) ≡ same_group a b
at_group a b = two_keys (name_cmp a.job b.job) (name_cmp a.group b.group) ∙ (λ i. is_eq-slice_cmp a.job b.job i && is_eq-slice_cmp a.group b.group i)

found_or : {X : Type 0} (b : Bool) (x : X) (o : Option X) → is_some (cond b (Some x) o) ≡ (b || is_some o)
found_or true x o = refl
found_or false x o = refl

-- one group more was met
pub met_more : (a b : Allocation) (groups : List JobGroup) → is_met (put job_group_cmp itself (job_group a) groups) b ≡ (same_group b a || is_met groups b)
met_more a b groups =
    ap is_some (row_of-put job_group_cmp itself groups_total (job_group b) (job_group a) groups)
    ∙ found_or (is_eq (job_group_cmp (job_group b) (job_group a))) (job_group a) (row_of job_group_cmp itself (job_group b) groups)
    ∙ ap (λ c. c || is_met groups b) (at_group b a)

pub firsts_are : (met rows : List Allocation) → firsts met rows ≡ firsts_but (λ a. list_any (same_group a) met) rows
firsts_are met [] = refl
firsts_are met (a ∷ rows) = λ i. cond (list_any (same_group a) met) (firsts_are met rows i) (a ∷ firsts_are (a ∷ met) rows i)

-- ---- a test that is the same for all of a job and group

module _ (stays : Allocation → Bool) (alike : (a b : Allocation) → same_group a b ≡ true → stays b ≡ stays a) where
  kept_met : (a : Allocation) (met : List Allocation) → stays a ≡ true → list_any (same_group a) (filter stays met) ≡ list_any (same_group a) met
  kept_met a met e = any-filter_same (same_group a) stays true (λ b t. alike a b t ∙ e) met

  with_head : (a : Allocation) (zs : List Allocation) (b : Bool) → stays a ≡ b → filter stays (a ∷ zs) ≡ cond b (a ∷ filter stays zs) (filter stays zs)
  with_head a zs b e = ap (λ c. cond c (a ∷ filter stays zs) (filter stays zs)) e

  module _ (a : Allocation) (met rows : List Allocation) (rest : (ms : List Allocation) → firsts (filter stays ms) (filter stays rows) ≡ filter stays (firsts ms rows)) where
    taken : stays a ≡ true → (c : Bool) → cond c (firsts (filter stays met) (filter stays rows)) (a ∷ firsts (a ∷ filter stays met) (filter stays rows)) ≡ filter stays (cond c (firsts met rows) (a ∷ firsts (a ∷ met) rows))
    taken e true = rest met
    taken e false =
        ap (λ zs. a ∷ zs) (ap (λ ms. firsts ms (filter stays rows)) (sym (with_head a met true e)) ∙ rest (a ∷ met))
        ∙ sym (with_head a (firsts (a ∷ met) rows) true e)

    passed : stays a ≡ false → (c : Bool) → firsts (filter stays met) (filter stays rows) ≡ filter stays (cond c (firsts met rows) (a ∷ firsts (a ∷ met) rows))
    passed e true = rest met
    passed e false =
        ap (λ ms. firsts ms (filter stays rows)) (sym (with_head a met false e)) ∙ rest (a ∷ met)
        ∙ sym (with_head a (firsts (a ∷ met) rows) false e)

  -- it may be asked of all, or of the first ones alone
  pub firsts_kept : (rows met : List Allocation) → firsts (filter stays met) (filter stays rows) ≡ filter stays (firsts met rows)
  firsts_kept [] met = refl
  firsts_kept (a ∷ rows) met =
      elim (stays a) as (λ b. stays a ≡ b → firsts (filter stays met) (cond b (a ∷ filter stays rows) (filter stays rows)) ≡ filter stays (cond (list_any (same_group a) met) (firsts met rows) (a ∷ firsts (a ∷ met) rows))) [
        | true ↦ λ e.
            ap (λ c. cond c (firsts (filter stays met) (filter stays rows)) (a ∷ firsts (a ∷ filter stays met) (filter stays rows))) (kept_met a met e)
            ∙ taken a met rows (firsts_kept rows) e (list_any (same_group a) met)
        | false ↦ λ e. passed a met rows (firsts_kept rows) e (list_any (same_group a) met)
      ] refl
