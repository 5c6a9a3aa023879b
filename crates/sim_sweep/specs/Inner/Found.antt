-- Rows by the places of their keys, as threads brought them.
use Rattle.std.specs.Prelude.{◌≡◌, ◌<◌, ℕ, List, Option, Some, length, slice_get}
use Rattle.std.specs.List.{All}
use Rattle.sim_scenario.specs.declared.scenario.Scenario.{Scenario}
use Rattle.sim_scenario.specs.declared.scenario.Settings.{Settings}
use Rattle.sim_sweep.specs.declared.row.Row.{Row}
use Rattle.sim_sweep.specs.declared.sweeping.NumberedRow.{NumberedRow}
use Rattle.sim_sweep.specs.Rows.{IsRow, key_at}

-- it is the row of the key at its position
abbrev pub IsNumbered : Scenario → Settings → ℕ → NumberedRow → Type 0
IsNumbered s settings first placed = IsRow s settings (key_at first placed.position) placed.row

-- where there is a row, it is that of the key at its position
abbrev pub AreFound : Scenario → Settings → ℕ → List (Option Row) → Type 0
AreFound s settings first found =
    (position : ℕ) (row : Row) → slice_get found position ≡ Some (Some row) → IsRow s settings (key_at first position) row

-- there is a row at this position
abbrev pub IsFoundAt : List (Option Row) → ℕ → Type 0
IsFoundAt found position = (row : Row) × (slice_get found position ≡ Some (Some row))

-- at the position of each of these rows there is one, where there is such a place
abbrev pub ArePlaced : List NumberedRow → List (Option Row) → Type 0
ArePlaced rows found = All (λ placed. placed.position < length found → IsFoundAt found placed.position) rows

-- where there was a row, there is one
abbrev pub StayFound : (old new : List (Option Row)) → Type 0
StayFound old new = (position : ℕ) → IsFoundAt old position → IsFoundAt new position
