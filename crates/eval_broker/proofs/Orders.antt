-- The orders of ranks and heads are total; and what a list in order has.
use Rattle.std.proofs.Common.{◌≡◌, Bool, true, false, cond, not, ◌&&◌, T, List, [], ◌∷◌, Option, Some, None, is_some, refl, sym, ap, subst, ◌∙◌}
use Rattle.std.specs.Prelude.{◌||◌}
use Rattle.std.specs.declared.cmp.Ordering.{Ordering}
use Rattle.std.specs.declared.cmp.Ordering.TheVariants.{Less, Equal, Greater}
use Rattle.std.specs.Ordering.{nat_cmp, is_eq, is_lt, is_gt, ordering_then, ordering_reverse}
use Rattle.std.specs.Cmp.{IsTotalOrder, on_total, then_total, bool_cmp_total, tied_itself}
use Rattle.std.specs.Cmp.Lexicographic.{nat_list_cmp_total}
use Rattle.std.proofs.lemmas.Map.Lookups.{exact_unsigned}
use Rattle.rows.specs.declared.evaluation.EvalId.{EvalId}
use Rattle.rows.specs.Keys.{eval_cmp}
use Rattle.rows.specs.Rising.{is_below, is_rising}
use Rattle.fsm_tables.specs.Rows.{row_of, put}
use Rattle.fsm_tables.proofs.RowLaws.{both, first, equal, none_below, below_less, row_of-put}
use Rattle.fsm_tables.proofs.SetLaws.{same_rows}
use Rattle.fsm_tables.specs.ReservedTables.{without}
use Rattle.fsm_tables.specs.declared.urgency.Urgency.{Urgency}
use Rattle.fsm_tables.specs.Urgencies.{urgency_cmp}
use Rattle.fsm_tables.proofs.ReservedTables.{row_of-without}
use Rattle.fsm_tables.proofs.Urgencies.{urgency_cmp_total}
use Rattle.eval_broker.specs.declared.ranks.Rank.{Rank}
use Rattle.eval_broker.specs.declared.ranks.Head.{Head}
use Rattle.eval_broker.specs.Inner.Lists.{rank_cmp, head_cmp, holds_key}

pub rank_total : IsTotalOrder rank_cmp
rank_total =
    then_total (on_total (λ (p : Rank). p.job) nat_list_cmp_total)
    (then_total (on_total (λ (p : Rank). p.is_free) bool_cmp_total)
    (then_total (on_total (λ (p : Rank). p.is_spent) bool_cmp_total) (on_total (λ (p : Rank). p.urgency) urgency_cmp_total)))

pub head_total : IsTotalOrder head_cmp
head_total = then_total (on_total (λ (t : Head). t.urgency) urgency_cmp_total) (on_total (λ (t : Head). t.job) nat_list_cmp_total)

-- ---- both parts tie

pub then_first : (r s : Ordering) → ordering_then r s ≡ Equal → r ≡ Equal
then_first Less s h = absurd cc
then_first Equal s h = refl
then_first Greater s h = absurd cc

pub then_second : (r s : Ordering) → ordering_then r s ≡ Equal → s ≡ Equal
then_second Less s h = absurd cc
then_second Equal s h = h
then_second Greater s h = absurd cc

pub is_equal : (r : Ordering) → is_eq r ≡ true → r ≡ Equal
is_equal r e = equal r (subst T (sym e) tt)

-- ids that tie are one
pub same_id : (a b : EvalId) → eval_cmp a b ≡ Equal → a ≡ b
same_id a b e =
    let index : a.index ≡ b.index = exact_unsigned _ _ (then_first (nat_cmp a.index b.index) (nat_cmp a.slot b.slot) e) in
    let slot : a.slot ≡ b.slot = exact_unsigned _ _ (then_second (nat_cmp a.index b.index) (nat_cmp a.slot b.slot) e) in
    λ i. record { index = index i; slot = slot i }

pub same_urgency : (a b : Urgency) → urgency_cmp a b ≡ Equal → a ≡ b
same_urgency a b e =
    let priority : b.priority.0 ≡ a.priority.0 = exact_unsigned _ _ (then_first (nat_cmp b.priority.0 a.priority.0) (eval_cmp a.id b.id) e) in
    let id : a.id ≡ b.id = same_id _ _ (then_second (nat_cmp b.priority.0 a.priority.0) (eval_cmp a.id b.id) e) in
    λ i. record { priority = record { 0 = sym priority i }; id = id i }

-- ---- cases

pub no : (b : Bool) → (b ≡ true → ⊥) → b ≡ false
no true h = absurd (h refl)
no false h = refl

pub true_false : {A : Type 0} (b : Bool) → b ≡ true → b ≡ false → A
true_false b t f = absurd (cc)

pub none_some : {A B : Type 0} (o : Option A) (x : A) → o ≡ None → o ≡ Some x → B
none_some o x n s = absurd (cc)

pub and_false : (b : Bool) → (b && false) ≡ false
and_false true = refl
and_false false = refl

pub and_left : (a b : Bool) → (a && b) ≡ true → a ≡ true
and_left true b h = refl
and_left false b h = h

pub and_right : (a b : Bool) → (a && b) ≡ true → b ≡ true
and_right true b h = h
and_right false b h = absurd (cc)

-- ---- what a list has

module _ {X : Type 0} (R : X → X → Ordering) (o : IsTotalOrder R) where
  pub has_put : (q x : X) (xs : List X) → holds_key R q (put R (λ y. y) x xs) ≡ (is_eq (R q x) || holds_key R q xs)
  has_put q x xs = ap is_some (row_of-put R (λ y. y) o q x xs) ∙ by (is_eq (R q x)) (row_of R (λ y. y) q xs) where
    by : (b : Bool) (m : Option X) → is_some (cond b (Some x) m) ≡ (b || is_some m)
    by true m = refl
    by false m = refl

  pub has_without : (q k : X) (xs : List X) → holds_key R q (without R (λ y. y) k xs) ≡ (not (is_eq (R q k)) && holds_key R q xs)
  has_without q k xs = ap is_some (row_of-without R (λ y. y) o q k xs) ∙ by (is_eq (R q k)) (row_of R (λ y. y) q xs) where
    by : (b : Bool) (m : Option X) → is_some (cond b None m) ≡ (not b && is_some m)
    by true m = refl
    by false m = refl

  pub has_first : (x : X) (xs : List X) → holds_key R x (x ∷ xs) ≡ true
  has_first x xs = ap (λ r. is_some (cond (is_eq r) (Some x) (row_of R (λ y. y) x xs))) (tied_itself o x)

  pub has_later : (q x : X) (xs : List X) → holds_key R q xs ≡ true → holds_key R q (x ∷ xs) ≡ true
  has_later q x xs h = by (is_eq (R q x)) where
    by : (b : Bool) → is_some (cond b (Some x) (row_of R (λ y. y) q xs)) ≡ true
    by true = refl
    by false = h

  -- what ties is had alike
  pub has_tied : (a b : X) (xs : List X) → R a b ≡ Equal → holds_key R a xs ≡ holds_key R b xs
  has_tied a b [] e = refl
  has_tied a b (x ∷ xs) e =
      (λ i. is_some (cond (is_eq (o.congr a b x e i)) (Some x) (row_of R (λ y. y) a xs)))
      ∙ by (is_eq (R b x)) (has_tied a b xs e)
    where
      by : (c : Bool) → holds_key R a xs ≡ holds_key R b xs → is_some (cond c (Some x) (row_of R (λ y. y) a xs)) ≡ is_some (cond c (Some x) (row_of R (λ y. y) b xs))
      by true rest = refl
      by false rest = rest

  -- nothing below all of them is there
  pub has_below : (q : X) (xs : List X) → T (is_below R (λ y. y) q xs) → holds_key R q xs ≡ false
  has_below q xs h = ap is_some (none_below R (λ y. y) o q xs h)

  -- what is there is no earlier than the first
  pub first_least : (x q : X) (xs : List X) → T (is_rising R (λ y. y) (x ∷ xs)) → holds_key R q (x ∷ xs) ≡ true → is_gt (R x q) ≡ false
  first_least x q xs rising h =
      elim (R x q) as (λ r. R x q ≡ r → is_gt r ≡ false) [
        | Less ↦ λ e. refl
        | Equal ↦ λ e. refl
        | Greater ↦ λ e. absurd (
            let under : R q x ≡ Less = o.antisymm q x ∙ ap ordering_reverse e in
            let none : holds_key R q (x ∷ xs) ≡ false = has_below q (x ∷ xs) (below q x xs under (first _ _ rising)) in
            true_false _ h none
            )
      ] refl
    where
      below : (q x : X) (xs : List X) → R q x ≡ Less → T (is_below R (λ y. y) x xs) → T (is_below R (λ y. y) q (x ∷ xs))
      below q x xs e h = both_below (subst (λ r. T (is_lt r)) (sym e) tt) (below_less R (λ y. y) o q x xs e h) where
        both_below : T (is_lt (R q x)) → T (is_below R (λ y. y) q xs) → T (is_below R (λ y. y) q (x ∷ xs))
        both_below = both _ _

  -- where ties are one, lists in order that have the same are one
  pub same_sets : ((a b : X) → R a b ≡ Equal → a ≡ b) → (xs ys : List X) → T (is_rising R (λ y. y) xs) → T (is_rising R (λ y. y) ys) → ((q : X) → holds_key R q xs ≡ holds_key R q ys) → xs ≡ ys
  same_sets exact xs ys g h same = same_rows R (λ y. y) o xs ys g h (λ q. itself q xs ∙ ap (λ b. cond b (Some q) None) (same q) ∙ sym (itself q ys)) where
    itself : (q : X) (zs : List X) → row_of R (λ y. y) q zs ≡ cond (holds_key R q zs) (Some q) None
    itself q [] = refl
    itself q (z ∷ zs) =
        elim (is_eq (R q z)) as (λ b. is_eq (R q z) ≡ b → cond b (Some z) (row_of R (λ y. y) q zs) ≡ cond (is_some (cond b (Some z) (row_of R (λ y. y) q zs))) (Some q) None) [
          | true ↦ λ t. ap Some (sym (exact q z (is_equal _ t)))
          | false ↦ λ t. itself q zs
        ] refl
