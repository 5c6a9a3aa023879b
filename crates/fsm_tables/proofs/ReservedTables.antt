-- Rows in order without one of them, whose laws stand with tables; and room for one more.
use Rattle.std.proofs.Common.{◌≡◌, ℕ, ◌+◌, ◌<◌, ◌≤◌, true, false, cond, T, List, length, arith}
use Rattle.std.specs.Prelude.{◌||◌, nat_lt}
use Rattle.std.specs.declared.cmp.Ordering.{Ordering}
use Rattle.std.specs.Cmp.{IsTotalOrder}
use Rattle.rows.specs.Rising.{is_rising}
use Rattle.fsm_tables.specs.Rows.{has_row, put}
use Rattle.fsm_tables.proofs.RowLaws.{length-put}
pub use Rattle.pages.proofs.Without.{rising_without, row_of-without, length-without, found_tied, without_none, cut_found, cut_missed, either_rising}

module _ {K X : Type 0} (R : K → K → Ordering) (key : X → K) (o : IsTotalOrder R) where
  -- where the rows with one more are not too many, there is room for it
  pub room_left : (x : X) (ys : List X) (room : ℕ) → T (is_rising R key ys) → length (put R key x ys) ≤ room → T (has_row R key (key x) ys || nat_lt (length ys) room)
  room_left x ys room h le =
      let size = length-put R key o x ys h in
      elim (has_row R key (key x) ys) as (λ b. length (put R key x ys) ≡ cond b (length ys) (length ys + 1) → T (b || nat_lt (length ys) room)) [
        | true ↦ λ e. tt
        | false ↦ λ e. below (length ys) room (omega (arith, e, le))
      ] size
    where
      below : (n m : ℕ) → n < m → T (nat_lt n m)
      below n m lt = grind arith
