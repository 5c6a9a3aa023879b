-- What is printed of the runs under many keys.
use Rattle.std.specs.Prelude.{◌++◌, ℕ, Bool, List, Option}
use Rattle.std.specs.Io.KnownBytes.{Appends}
use Rattle.std.specs.List.{flat_map}
use Rattle.sim_args.specs.declared.command.SweepWords.{SweepWords}
use Rattle.sim_scenario.specs.declared.scenario.Scenario.{Scenario}
use Rattle.sim_scenario.specs.declared.scenario.Settings.{Settings}
use Rattle.sim_sweep.specs.declared.row.Row.{Row}
use Rattle.sim_sweep.specs.Rows.{AreRows}
use Rattle.sim_sweep.specs.Tables.{csv_head, csv_line}
use Rattle.runner.specs.Told.{ShowsRows}

-- there is a row for each of the keys, and the output grows by what is said of them
abbrev pub ShowsRuns : Bool → Scenario → Settings → SweepWords → Option (List ℕ) → Option (List ℕ) → Type 0
ShowsRuns csv s settings words old new =
    (rows : List Row) × AreRows s settings words.keys.first words.keys.count rows × ShowsRows csv settings rows old new

-- the same of the first so many of them, by a line for each behind the names of what stands in it
abbrev pub ShowsSome : Scenario → Settings → ℕ → ℕ → Option (List ℕ) → Option (List ℕ) → Type 0
ShowsSome s settings first count old new =
    (rows : List Row) × AreRows s settings first count rows × Appends old new (csv_head ++ flat_map csv_line rows)
