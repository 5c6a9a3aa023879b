-- From which moment it takes the most events to bring a group back.
use Rattle.std.specs.Prelude.{◌≡◌, ◌<◌, ◌≤◌, ◌++◌, ◌∷◌, List}
use Rattle.std.specs.List.{Contains}
use Rattle.sim_recovery.specs.declared.table.WayRow.{WayRow}

-- it is among these, none takes more events, and each before it takes fewer
pub record IsFarthest (rows : List WayRow) (row : WayRow) : Type 0 where
  pub before : List WayRow
  pub behind : List WayRow
  pub among : rows ≡ before ++ row ∷ behind
  pub first : (other : WayRow) → Contains before other → other.counts.events < row.counts.events
  pub most : (other : WayRow) → Contains rows other → other.counts.events ≤ row.counts.events
