-- What the row of a key says: how the run under it ended.
use Rattle.std.specs.Prelude.{◌≡◌, ◌⊎◌, ◌+◌, ◌%◌, ◌^◌, ℕ, false, List, length, map}
use Rattle.std.specs.List.{AllZip, range_with_len}
use Rattle.rows.specs.declared.refusal.Refusal.{Refusal}
use Rattle.rows.specs.declared.refusal.Refusal.TheVariants.{NoMemory, OutOfRange}
use Rattle.sim_scenario.specs.declared.scenario.Scenario.{Scenario}
use Rattle.sim_scenario.specs.declared.scenario.Settings.{Settings}
use Rattle.sim_scenario.specs.Complaints.{IsGood}
use Rattle.sim_scenario.specs.Objects.{step_lines}
use Rattle.sim_play.specs.declared.play.Play.{Play}
use Rattle.sim_play.specs.Played.{LinesPlayed, Refused}
use Rattle.sim_play.specs.PlaySteps.{StepRefused, StepTaken}
use Rattle.sim_play.specs.Plays.{IsNewPlay, MakesGroup}
use Rattle.sim_ending.specs.EndNumbers.{HasNumbers}
use Rattle.sim_sweep.specs.declared.row.Row.{Row}

-- the same settings under another key
abbrev pub keyed : Settings → ℕ → Settings
keyed settings key = record settings { key = key }

-- The steps of the scenario came to a new group of its nodes, with these settings under this key; no
-- actor lacked memory; so many of the steps were refused, and the row has the numbers of the last
-- lines of the group to which they led.
pub record IsRow (s : Scenario) (settings : Settings) (key : ℕ) (row : Row) : Type 0 where
  pub is_key : row.key ≡ key
  pub first : Play
  pub last : Play
  pub begun : IsNewPlay (keyed settings key) s.nodes.items first
  pub refused : List Refused
  pub played : LinesPlayed StepTaken StepRefused (step_lines s) first refused last
  pub found : last.lacked ≡ false
  pub counted : length refused ≡ row.refused
  pub ended : HasNumbers last.world row.end

-- why there is no row: want of memory; or there is no group of such a size, or a line is no step's
abbrev pub WhyNoRow : Scenario → Settings → Refusal → Type 0
WhyNoRow s settings refusal =
    (refusal ≡ NoMemory) ⊎ ((refusal ≡ OutOfRange) × (¬ MakesGroup settings s.nodes.items ⊎ ¬ IsGood s))

-- the key at a position among those that begin with this one; behind the greatest comes 0
abbrev pub key_at : ℕ → ℕ → ℕ
key_at first position = (first + position) % 2 ^ 64

-- so many keys from this one on
abbrev pub keys_from : ℕ → ℕ → List ℕ
keys_from first count = map (key_at first) (range_with_len 0 count)

-- a row for each key, in their order
abbrev pub AreRows : Scenario → Settings → ℕ → ℕ → List Row → Type 0
AreRows s settings first count rows = AllZip (IsRow s settings) (keys_from first count) rows
