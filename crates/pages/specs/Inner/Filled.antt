-- A walk whose run is filled up.
use Rattle.std.specs.Prelude.{◌≡◌, []}
use Rattle.pages.specs.declared.walk_type.Rows.{Rows}
use Rattle.pages.specs.Runs.{rows_left}

-- where nothing is left of the run, nothing is left
abbrev pub FilledUp : {X K : Type 0} → Rows X K → Type 0
FilledUp s = s.run.now ≡ [] → rows_left s ≡ []
