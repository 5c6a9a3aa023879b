-- Rows put at their places.
use Rattle.std.proofs.Common.{◌≡◌, ◌+◌, ◌<◌, ◌∷◌, ℕ, zero, suc, List, [], Option, Some, arith, get_or, length, refl, set, slice_get, subst, take}
use Rattle.std.specs.List.{All}
use Rattle.std.proofs.lemmas.List.{length-set}
use Rattle.std.proofs.lemmas.List.Elements.{All-more, All-weaker}
use Rattle.sim_sweep.specs.declared.row.Row.{Row}
use Rattle.sim_sweep.specs.declared.sweeping.NumberedRow.{NumberedRow}
use Rattle.sim_sweep.specs.Inner.Found.{ArePlaced, IsFoundAt, StayFound}

set_there : (xs : List (Option Row)) (i : ℕ) (y : Option Row) → i < length xs → slice_get (set xs i y) i ≡ Some y
set_there [] i y within = absurd (omega arith)
set_there (x ∷ xs) zero y within = refl
set_there (x ∷ xs) (suc i) y within = set_there xs i y (omega arith)

set_keeps : (xs : List (Option Row)) (i k : ℕ) (row : Row) → IsFoundAt xs k → IsFoundAt (set xs i (Some row)) k
set_keeps [] i k row is = is
set_keeps (x ∷ xs) zero zero row is = (row, refl)
set_keeps (x ∷ xs) zero (suc k) row is = is
set_keeps (x ∷ xs) (suc i) zero row is = is
set_keeps (x ∷ xs) (suc i) (suc k) row is = set_keeps xs i k row is

-- ---- one row more

pub placed_more : (rows : List NumberedRow) (i : ℕ) (placed : NumberedRow) (found : List (Option Row)) → i < length rows → placed ≡ get_or rows i placed
    → ArePlaced (take i rows) found
    → ArePlaced (take (i + 1) rows) (set found placed.position (Some placed.row))
placed_more rows i placed found within at are =
    let new = set found placed.position (Some placed.row) in
    let size : length new ≡ length found = length-set found placed.position (Some placed.row) in
    let Placed : NumberedRow → Type 0 = λ one. one.position < length new → IsFoundAt new one.position in
    let before : All Placed (take i rows) = All-weaker (λ one. one.position < length found → IsFoundAt found one.position) Placed (λ one was inside. set_keeps found placed.position one.position placed.row (was (omega arith))) (take i rows) are in
    let own : Placed placed = λ inside. (placed.row, set_there found placed.position (Some placed.row) (omega arith)) in
    All-more Placed rows i placed within before (subst Placed at own)

pub found_still : (first found : List (Option Row)) (position : ℕ) (row : Row) → StayFound first found → StayFound first (set found position (Some row))
found_still first found position row stay k is = set_keeps found position k row (stay k is)

-- ---- the rows of one worker more

placed_still : (rows : List NumberedRow) (old new : List (Option Row)) → length old ≡ length new → StayFound old new → ArePlaced rows old → ArePlaced rows new
placed_still rows old new size stay are =
    All-weaker (λ one. one.position < length old → IsFoundAt old one.position) (λ one. one.position < length new → IsFoundAt new one.position) (λ one was inside. stay one.position (was (omega arith))) rows are

module _ {C : Type 0} (items : C → List NumberedRow) where
  pub all_placed_more : (brought : List C) (i : ℕ) (rows : C) (old new : List (Option Row)) → i < length brought → rows ≡ get_or brought i rows
      → length old ≡ length new → StayFound old new → ArePlaced (items rows) new
      → All (λ own. ArePlaced (items own) old) (take i brought)
      → All (λ own. ArePlaced (items own) new) (take (i + 1) brought)
  all_placed_more brought i rows old new within at size stay own are =
      let Placed : C → Type 0 = λ one. ArePlaced (items one) new in
      let before : All Placed (take i brought) = All-weaker (λ one. ArePlaced (items one) old) Placed (λ one was. placed_still (items one) old new size stay was) (take i brought) are in
      All-more Placed brought i rows within before (subst Placed at own)
