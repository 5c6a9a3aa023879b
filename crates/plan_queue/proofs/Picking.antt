-- The plan at the place of the first is the one that is picked.
use Rattle.std.proofs.Common.{◌≡◌, ℕ, zero, suc, ◌<◌, ◌≤◌, true, false, cond, nat_lt, List, [], ◌∷◌, length, get_or, Option, Some, None, refl, ap, ◌∙◌, arith}
use Rattle.std.specs.Prelude.{remove}
use Rattle.group_model.specs.Order.{Picked, or_head}
use Rattle.group_model.specs.Desks.{QueuedPlan}
use Rattle.group_model.specs.Queues.{first_plan}
use Rattle.plan_queue.specs.First.{IsFirstAt}

abbrev urgency : QueuedPlan → ℕ
urgency w = w.priority

-- what is picked, if anything is, has at most this priority
abbrev AtMost : ℕ → Option (Picked QueuedPlan) → Type 0
AtMost most None = Unit {0}
AtMost most (Some p) = p.one.priority ≤ most

head_stays : (x : QueuedPlan) (xs : List QueuedPlan) (o : Option (Picked QueuedPlan)) → AtMost x.priority o → or_head urgency x xs o ≡ record { one = x; others = xs }
head_stays x xs None h = refl
head_stays x xs (Some p) h =
    let no : nat_lt x.priority p.one.priority ≡ false = grind arith in
    ap (λ b. cond b (record { one = p.one; others = x ∷ p.others }) (record { one = x; others = xs })) no

head_most : (most : ℕ) (x : QueuedPlan) (xs : List QueuedPlan) (o : Option (Picked QueuedPlan)) → x.priority ≤ most → AtMost most o → AtMost most (Some (or_head urgency x xs o))
head_most most x xs None le h = le
head_most most x xs (Some p) le h =
    elim (nat_lt x.priority p.one.priority) as (λ b. (cond {A = Picked QueuedPlan} b (record { one = p.one; others = x ∷ p.others }) (record { one = x; others = xs })).one.priority ≤ most) [ true ↦ h | false ↦ le ]

picked_most : (most : ℕ) (xs : List QueuedPlan) → ((j : ℕ) (d : QueuedPlan) → j < length xs → (get_or xs j d).priority ≤ most) → AtMost most (first_plan xs)
picked_most most [] h = tt
picked_most most (x ∷ xs) h = head_most most x xs (first_plan xs) (h 0 x (omega arith)) (picked_most most xs (λ j d lt. h (suc j) d (omega arith)))

pub picked_at : (xs : List QueuedPlan) (at : ℕ) (d : QueuedPlan) → IsFirstAt xs at → first_plan xs ≡ Some (record { one = get_or xs at d; others = remove xs at })
picked_at [] at d h = absurd (omega arith)
picked_at (x ∷ xs) zero d h = ap Some (head_stays x xs (first_plan xs) (picked_most x.priority xs (λ j e lt. h.highest (suc j) e (omega arith))))
picked_at (x ∷ xs) (suc at) d h =
    let rest : IsFirstAt xs at = record {
      within = omega arith;
      highest = λ j e lt. h.highest (suc j) e (omega arith);
      earlier = λ j e lt. h.earlier (suc j) e (omega arith);
    } in
    let below : nat_lt x.priority (get_or xs at d).priority ≡ true = grind (arith, h.earlier 0 d (omega arith)) in
    ap (λ o. Some (or_head urgency x xs o)) (picked_at xs at d rest)
    ∙ ap (λ b. Some (cond b (record { one = get_or xs at d; others = x ∷ remove xs at }) (record { one = x; others = xs }))) below
