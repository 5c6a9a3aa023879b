-- Counts of plans, found by their deliveries.
use Rattle.std.proofs.Common.{◌≡◌, ◌≢◌, ℕ, true, false, cond, List, [], ◌∷◌, Some, refl, sym, ap, ◌∙◌}
use Rattle.std.specs.Prelude.{unwrap_or}
use Rattle.std.specs.declared.cmp.Ordering.TheVariants.{Less, Equal, Greater}
use Rattle.std.specs.declared.cmp.Ordering.{Ordering}
use Rattle.std.specs.Ordering.{is_eq, nat_cmp, ordering_then}
use Rattle.std.specs.Map.{lookup}
use Rattle.std.specs.BTreeMap.{is_at}
use Rattle.std.specs.Cmp.{IsTotalOrder, on_total, then_total, tied_itself}
use Rattle.std.proofs.lemmas.Cmp.{nat_cmp_total}
use Rattle.std.proofs.lemmas.Map.Lookups.{exact_unsigned}
use Rattle.rows.specs.declared.evaluation.EvalId.{EvalId}
use Rattle.rows.specs.Keys.{eval_cmp}
use Rattle.rows.proofs.KeyLaws.{eval_cmp_total}
use Rattle.workers.specs.declared.plan_counts.Lease.{Lease}
use Rattle.workers.specs.PlanCounts.{count_of, lease_cmp}

both_tie : (a b : Ordering) → ordering_then a b ≡ Equal → (a ≡ Equal) × (b ≡ Equal)
both_tie Less b e = absurd cc
both_tie Equal b e = (refl, e)
both_tie Greater b e = absurd cc

same_eval : (a b : EvalId) → eval_cmp a b ≡ Equal → a ≡ b
same_eval a b e =
    let k = both_tie (nat_cmp a.index b.index) (nat_cmp a.slot b.slot) e in
    λ i. record { index = exact_unsigned a.index b.index k.0 i; slot = exact_unsigned a.slot b.slot k.1 i }

-- two deliveries that tie are one
same_lease : (a b : Lease) → lease_cmp a b ≡ Equal → a ≡ b
same_lease a b e =
    let k = both_tie (eval_cmp a.eval b.eval) (ordering_then (nat_cmp a.term b.term) (nat_cmp a.serial b.serial)) e in
    let l = both_tie (nat_cmp a.term b.term) (nat_cmp a.serial b.serial) k.1 in
    λ i. record {
      eval = same_eval a.eval b.eval k.0 i;
      term = exact_unsigned a.term b.term l.0 i;
      serial = exact_unsigned a.serial b.serial l.1 i;
    }

leases_total : IsTotalOrder lease_cmp
leases_total =
    then_total (on_total (λ (l : Lease). l.eval) eval_cmp_total)
    (then_total (on_total (λ (l : Lease). l.term) nat_cmp_total) (on_total (λ (l : Lease). l.serial) nat_cmp_total))

-- a count is what is found under the delivery, or 0
pub count_found : (lease : Lease) (counts : List (Lease × ℕ)) → count_of lease counts ≡ unwrap_or (lookup (is_at (lease_cmp lease)) counts) 0
count_found lease [] = refl
count_found lease (x ∷ xs) =
    elim (is_eq (lease_cmp lease x.0)) as (λ b. cond b x.1 (count_of lease xs) ≡ unwrap_or (cond b (Some x.1) (lookup (is_at (lease_cmp lease)) xs)) 0) [
      | true ↦ refl
      | false ↦ count_found lease xs
    ]

ties : (r : Ordering) → is_eq r ≡ true → r ≡ Equal
ties Less h = absurd cc
ties Equal h = refl
ties Greater h = absurd cc

apart : (lease other : Lease) → other ≢ lease → is_eq (lease_cmp lease other) ≡ false
apart lease other other_is =
    elim (is_eq (lease_cmp lease other)) as (λ b. is_eq (lease_cmp lease other) ≡ b → b ≡ false) [
      | true ↦ λ h. absurd (other_is (sym (same_lease lease other (ties _ h))))
      | false ↦ λ h. refl
    ] refl

-- the number n is found under this delivery now, and under each other what was before
pub counted : (lease : Lease) (old new : List (Lease × ℕ)) (n : ℕ)
    → ((other : Lease) → lookup (is_at (lease_cmp other)) new ≡ cond (is_eq (lease_cmp lease other)) (Some n) (lookup (is_at (lease_cmp other)) old))
    → (count_of lease new ≡ n) × ((other : Lease) → other ≢ lease → count_of other new ≡ count_of other old)
counted lease old new n found = (
  count_found lease new ∙ ap (λ o. unwrap_or o 0) (found lease ∙ ap (λ b. cond b (Some n) (lookup (is_at (lease_cmp lease)) old)) (ap is_eq (tied_itself leases_total lease))),
  λ other differs.
      count_found other new
      ∙ ap (λ o. unwrap_or o 0) (found other ∙ ap (λ b. cond b (Some n) (lookup (is_at (lease_cmp other)) old)) (apart lease other differs))
      ∙ sym (count_found other old),
)
