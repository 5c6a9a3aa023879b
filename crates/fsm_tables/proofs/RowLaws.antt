-- What a put leaves: the laws that stand with tables, and sums over the rows.
use Rattle.std.proofs.Common.{◌≡◌, ℕ, ◌+◌, List, [], ◌∷◌, Bool, true, false, length, T, cond, Option, Some, None, is_some, refl, ap, ◌∙◌, arith}
use Rattle.std.specs.Prelude.{sum_by, nat_lt, ◌||◌}
use Rattle.std.proofs.lemmas.List.Sums.{sum_by-cons}
use Rattle.std.specs.declared.cmp.Ordering.{Ordering}
use Rattle.std.specs.declared.cmp.Ordering.TheVariants.{Less, Equal, Greater}
use Rattle.std.specs.Ordering.{is_eq}
use Rattle.std.specs.Cmp.{IsTotalOrder, tied_itself}
use Rattle.rows.specs.Rising.{is_rising}
use Rattle.fsm_tables.specs.Rows.{by_order, row_of, has_row, put, put_within}
use Rattle.fsm_tables.specs.Inner.Sums.{weight_of}
pub use Rattle.pages.proofs.RowLaws.{both, first, second, less, equal, some_none, some_same, below_mapped, rising_mapped, within_room, below_less, below_tied, none_below, row_of-put, rising_put, length-put, rising_put_within, few_put_within, few_put, all_put}

module _ {K X : Type 0} (R : K → K → Ordering) (key : X → K) (o : IsTotalOrder R) where
  -- a row that is put is there then, unless there is no room for it
  pub row_of-put_within : (most : ℕ) (x : X) (ys : List X) (b : Bool) → (has_row R key (key x) ys || nat_lt (length ys) most) ≡ b → row_of R key (key x) (put_within R key most x ys) ≡ cond b (Some x) None
  row_of-put_within most x ys true e =
      ap (λ b. row_of R key (key x) (cond b (put R key x ys) ys)) e ∙ row_of-put R key o (key x) x ys ∙ ap (λ r. cond (is_eq r) (Some x) (row_of R key (key x) ys)) (tied_itself o (key x))
  row_of-put_within most x ys false e = ap (λ b. row_of R key (key x) (cond b (put R key x ys) ys)) e ∙ none (row_of R key (key x) ys) e where
    none : (m : Option X) → (is_some m || nat_lt (length ys) most) ≡ false → m ≡ None
    none None e = refl
    none (Some y) e = absurd (cc)

  -- a sum over the rows changes by the row put and the row replaced
  pub sum_by-put : (w : X → ℕ) (x : X) (ys : List X) → T (is_rising R key ys) → sum_by w (put R key x ys) + weight_of w (row_of R key (key x) ys) ≡ sum_by w ys + w x
  sum_by-put w x [] h = omega arith
  sum_by-put w x (y ∷ ys) h =
      elim (R (key x) (key y)) as (λ r. R (key x) (key y) ≡ r → sum_by w (by_order r (x ∷ y ∷ ys) (x ∷ ys) (y ∷ put R key x ys)) + weight_of w (cond (is_eq r) (Some y) (row_of R key (key x) ys)) ≡ sum_by w (y ∷ ys) + w x) [
        | Less ↦ λ p.
            let none = none_below R key o (key x) ys (below_less R key o (key x) (key y) ys p (first _ _ h)) in
            rw none (omega (arith, sum_by-cons w x (y ∷ ys)))
        | Equal ↦ λ p. omega (arith, sum_by-cons w x ys, sum_by-cons w y ys)
        | Greater ↦ λ p.
            let rest : sum_by w (put R key x ys) + weight_of w (row_of R key (key x) ys) ≡ sum_by w ys + w x = sum_by-put w x ys (second _ _ h) in
            omega (arith, sum_by-cons w y (put R key x ys), sum_by-cons w y ys)
      ] refl
