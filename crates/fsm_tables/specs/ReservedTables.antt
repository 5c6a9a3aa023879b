-- Rows in strictly rising key, with room for so many; and rows that go.
use Rattle.std.specs.Prelude.{ℕ, Bool, ◌||◌, nat_lt, List, length}
use Rattle.std.specs.declared.cmp.Ordering.{Ordering}
use Rattle.fsm_tables.specs.Rows.{has_row}
pub use Rattle.pages.specs.Rows.{without}

pub record Stock (X : Type 0) : Type 0 where
  pub rows : List X
  pub capacity : ℕ

-- whether there is room for a row: one of its key is there, or there is room for one more
abbrev pub has_space : {K X : Type 0} → (K → K → Ordering) → (X → K) → X → Stock X → Bool
has_space R key x s = has_row R key (key x) s.rows || nat_lt (length s.rows) s.capacity
