-- What is claimed after a plan, one claim after the other, as the code looks at it.
use Rattle.std.proofs.Common.{◌≡◌, ℕ, ◌+◌, ◌-◌, Bool, true, false, cond, not, ◌&&◌, T, List, [], ◌∷◌, ◌++◌, length, map, take, drop, refl, sym, ap, subst, ◌∙◌, arith}
use Rattle.std.specs.Prelude.{sum_by, nat_eq, nat_le}
use Rattle.std.specs.List.{AllByRecursion, list_all}
use Rattle.std.proofs.lemmas.List.{take-append-drop, length-drop}
use Rattle.std.proofs.Math.Seq.{take-length}
use Rattle.std.proofs.lemmas.List.Sums.{sum_by-cons}
use Rattle.rows.specs.declared.node.Node.{Node}
use Rattle.rows.specs.declared.allocation.Allocation.{Allocation}
use Rattle.rows.specs.declared.command.AcceptedPlan.{AcceptedPlan}
use Rattle.rows.specs.declared.size.Size.{Size}
use Rattle.rows.specs.Sizes.{Part, amount, in_each_part, less, fits}
use Rattle.rows.proofs.SizeLaws.{amount_of_less, both_in_each, same_in_each}
use Rattle.rows.proofs.Truth.{is_true}
use Rattle.fsm_tables.specs.Claims.{Claim, claim_of, claims, on_node, used, is_live}
use Rattle.fsm_tables.proofs.Uses.{use_is, use_fits}
use Rattle.fsm_model.specs.Words.{State}
use Rattle.fsm_model.specs.Safe.{is_safe, are_safe, is_within, are_distinct}
use Rattle.fsm_model.specs.Effect.{with_next_count, stop, planned}
use Rattle.fsm_model.proofs.SafeLaws.{Fewer, nothing, kept, gone, fewer_distinct, distinct_of, stop_releases}
use Rattle.fsm_model.proofs.UseLaws.{Counts, number_fits, safe_by_numbers, low_numbers}
use Rattle.fsm_model.specs.Plans.{wanted, are_free, is_made, left, left_by, FitsWhereAsked}
use Rattle.fsm_model.proofs.PlanLaws.{all_wanted_count, all_append, distinct-append, kept_is_distinct}
use Rattle.fsm_model.proofs.RangeLaws.{all_mapped}
use Rattle.fsm_model.proofs.AfterLaws.{planned_is_safe, safe_is_planned, RowCounts, rows_count}
use Rattle.fsm_state.specs.Inner.Claimed.{fits_steps, bears_node}
use Rattle.fsm_model.proofs.Lists.{same_truth}

one_step : (a s u : ℕ) → (nat_le a u && nat_le s (u - a)) ≡ nat_le (a + s) u
one_step a s u = grind arith

no_more : (n : ℕ) → 0 + n ≡ n
no_more n = omega arith

pub fits_is : (n : ℕ) (cs : List Claim) (left : Size) → fits_steps n cs left ≡ fits (used n cs) left
fits_is n [] left = sym (is_true (fits (used n []) left) (use_fits n [] left (λ p. omega arith)))
fits_is n (c ∷ cs) left =
    let sum = λ (p : Part). sum_by (on_node n p) cs in
    elim (nat_eq c.node n) as (λ b. cond b (fits c.size left && fits_steps n cs (less left c.size)) (fits_steps n cs left) ≡ in_each_part (λ p. nat_le (cond b (amount p c.size) 0 + sum p) (amount p left))) [
      | true ↦
          ap (λ b. fits c.size left && b) (fits_is n cs (less left c.size))
          ∙ both_in_each (λ p. nat_le (amount p c.size) (amount p left)) (λ p. nat_le (amount p (used n cs)) (amount p (less left c.size)))
          ∙ same_in_each (λ p. nat_le (amount p c.size) (amount p left) && nat_le (amount p (used n cs)) (amount p (less left c.size))) (λ p. nat_le (amount p c.size + sum p) (amount p left)) (λ p.
          (λ i. nat_le (amount p c.size) (amount p left) && nat_le (use_is p n cs i) (amount_of_less p left c.size i))
          ∙ one_step (amount p c.size) (sum p) (amount p left))
      | false ↦ fits_is n cs left ∙ sym (λ i. in_each_part (λ p. nat_le (no_more (sum p) i) (amount p left)))
    ]
    ∙ sym (λ i. in_each_part (λ p. nat_le (sum_by-cons (on_node n p) c cs i) (amount p left)))

pub all_within : (cs : List Claim) (nodes : List Node) → list_all (bears_node cs) nodes ≡ list_all (is_within cs) nodes
all_within cs [] = refl
all_within cs (n ∷ nodes) = λ i. fits_is n.number cs n.size i && all_within cs nodes i

left_count : (x slot n : ℕ) (rows : List Allocation) → AllByRecursion RowCounts rows → AllByRecursion Counts (left x slot n rows)
left_count x slot n [] h = tt
left_count x slot n (a ∷ rows) h = elim (is_live a && not (is_made x slot n a)) as (λ b. AllByRecursion Counts (cond b (claim_of a ∷ left x slot n rows) (left x slot n rows))) [ true ↦ (h.0, left_count x slot n rows h.1) | false ↦ left_count x slot n rows h.1 ]

-- the nodes bear what is claimed after a plan exactly where the state after it is safe
pub bears_is_safe : (p : AcceptedPlan) (s : State) → FitsWhereAsked p s → are_safe s.nodes (left_by p s ++ wanted p) ≡ is_safe (planned p (with_next_count s))
bears_is_safe p s k =
    let cs = left_by p s ++ wanted p in
    let still = all_mapped RowCounts (stop p.stops) (λ a c. subst Counts (sym ((stop_releases p.stops).same_claim a)) c) s.allocs (rows_count s.allocs k.allocs) in
    let counts = all_append Counts (left_by p s) (wanted p) (left_count (s.count + 1) 0 (length p.places) (map (stop p.stops) s.allocs) still) (all_wanted_count p p.places k.places) in
    same_truth (are_safe s.nodes cs) (is_safe (planned p (with_next_count s)))
    (λ h. planned_is_safe p s k (record { fit = λ n lt. number_fits s.nodes cs h n; distinct = distinct_of s.nodes cs h }))
    (λ h. let a = safe_is_planned p s k h in safe_by_numbers s.nodes cs k.nodes_rising (low_numbers s.nodes k.nodes) counts a.fit a.distinct)

-- ---- names

fewer_left : (l m : Bool) (c : Claim) (cs ds : List Claim) → Fewer cs ds → Fewer (cond (l && not m) (c ∷ cs) cs) (cond l (c ∷ ds) ds)
fewer_left true true c cs ds f = gone c cs ds f
fewer_left true false c cs ds f = kept c cs ds f
fewer_left false m c cs ds f = f

pub left_fewer : (x slot n : ℕ) (rows : List Allocation) → Fewer (left x slot n rows) (claims rows)
left_fewer x slot n [] = nothing
left_fewer x slot n (a ∷ rows) = fewer_left (is_live a) (is_made x slot n a) (claim_of a) (left x slot n rows) (claims rows) (left_fewer x slot n rows)

-- then what a plan leaves is distinct
pub left_is_distinct : (p : AcceptedPlan) (s : State) → T (are_distinct (claims s.allocs)) → T (are_distinct (left_by p s))
left_is_distinct p s h = fewer_distinct (left_by p s) (claims (map (stop p.stops) s.allocs)) (left_fewer (s.count + 1) 0 (length p.places) (map (stop p.stops) s.allocs)) (kept_is_distinct p s h)

-- and what it wants is looked at alone
pub both_distinct : (cs ds : List Claim) → T (are_distinct cs) → (are_distinct ds && are_free cs ds) ≡ are_distinct (cs ++ ds)
both_distinct cs ds h = sym (distinct-append cs ds ∙ ap (λ b. b && are_distinct ds && are_free cs ds) (is_true (are_distinct cs) h))

pub front_distinct : (n : ℕ) (cs : List Claim) → T (are_distinct (take n cs)) → (are_distinct (drop n cs) && are_free (take n cs) (drop n cs)) ≡ are_distinct cs
front_distinct n cs h = both_distinct (take n cs) (drop n cs) h ∙ ap are_distinct (take-append-drop n cs)

tail_itself : (n : ℕ) (cs : List Claim) → take (length cs - n) (drop n cs) ≡ drop n cs
tail_itself n cs = ap (λ m. take m (drop n cs)) (sym (length-drop n cs)) ∙ take-length (drop n cs)

-- the answer where the names that are wanted are distinct, and where they are not
pub front_yes : (n : ℕ) (cs : List Claim) (b c : Bool) → T (are_distinct (take n cs)) → b ≡ are_distinct (take (length cs - n) (drop n cs)) → c ≡ are_free (take n cs) (take (length cs - n) (drop n cs)) → b ≡ true → c ≡ are_distinct cs
front_yes n cs b c h e f is =
    f ∙ ap (are_free (take n cs)) (tail_itself n cs)
    ∙ ap (λ d. d && are_free (take n cs) (drop n cs)) (sym is ∙ e ∙ ap are_distinct (tail_itself n cs)) ∙ front_distinct n cs h

pub front_no : (n : ℕ) (cs : List Claim) (b : Bool) → T (are_distinct (take n cs)) → b ≡ are_distinct (take (length cs - n) (drop n cs)) → b ≡ false → b ≡ are_distinct cs
front_no n cs b h e is = is ∙ ap (λ d. d && are_free (take n cs) (drop n cs)) (sym is ∙ e ∙ ap are_distinct (tail_itself n cs)) ∙ front_distinct n cs h
