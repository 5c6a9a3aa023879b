-- What many runs come to.
use Rattle.std.specs.Prelude.{◌≡◌, ◌==◌, ◌&&◌, ◌||◌, ◌-◌, ◌/◌, ◌++◌, ◌∷◌, ℕ, Bool, true, false, is_some, nat_lt, List, Some, count_by, length, map, slice_get}
use Rattle.std.specs.List.{Contains}
use Rattle.std.specs.List.Sorted.{IsPermutation, IsSorted}
use Rattle.std.specs.Ordering.{nat_cmp}
use Rattle.sim_sweep.specs.declared.row.Row.{Row}
use Rattle.sim_sweep.specs.declared.spread.Spread.{Spread}
use Rattle.sim_sweep.specs.declared.summary.Summary.{Summary}

-- the least of these numbers, the one in the middle, of two the lower one, and the greatest
pub record IsSpread (numbers : List ℕ) (s : Spread) : Type 0 where
  pub sorted : List ℕ
  pub same : IsPermutation numbers sorted
  pub rising : IsSorted nat_cmp sorted
  pub least : slice_get sorted 0 ≡ Some s.least
  pub median : slice_get sorted ((length sorted - 1) / 2) ≡ Some s.median
  pub greatest : slice_get sorted (length sorted - 1) ≡ Some s.greatest

-- a server leads in the end, in the greatest term of all
abbrev pub is_led : Row → Bool
is_led row = is_some row.end.leader

-- each allocation that is told runs, and one is told at least
abbrev pub all_run : Row → Bool
all_run row = nat_lt 0 row.end.live && (row.end.running == row.end.live)

abbrev pub has_refused : Row → Bool
has_refused row = nat_lt 0 row.refused

-- how well a run ended: not even with a leader; with one, but not with each allocation running; with
-- both, but with refused steps; or with both, and without
abbrev pub class_by : (led running refused : Bool) → ℕ
class_by false running refused = 0
class_by true false refused = 1
class_by true true true = 2
class_by true true false = 3

abbrev pub class_of : Row → ℕ
class_of row = class_by (is_led row) (all_run row) (has_refused row)

-- a run is worse than another that ended better, and than one that ended as well after fewer events
abbrev pub is_worse : Row → Row → Bool
is_worse one other =
    nat_lt (class_of one) (class_of other)
    || (class_of one == class_of other && nat_lt other.end.events one.end.events)

-- it is among these, none of them is worse, and it is worse than each before it
pub record IsWorst (rows : List Row) (row : Row) : Type 0 where
  pub before : List Row
  pub behind : List Row
  pub among : rows ≡ before ++ row ∷ behind
  pub first : (other : Row) → Contains before other → is_worse row other ≡ true
  pub most : (other : Row) → Contains rows other → is_worse other row ≡ false

pub record IsSummary (rows : List Row) (s : Summary) : Type 0 where
  pub runs : s.runs ≡ length rows
  pub led : s.led ≡ count_by is_led rows
  pub running : s.running ≡ count_by all_run rows
  pub refused : s.refused ≡ count_by has_refused rows
  pub terms : IsSpread (map (λ r. r.end.term) rows) s.terms
  pub messages : IsSpread (map (λ r. r.end.messages) rows) s.messages
  pub events : IsSpread (map (λ r. r.end.events) rows) s.events
  pub row : Row
  pub worst : IsWorst rows row
  pub key : s.worst ≡ row.key
