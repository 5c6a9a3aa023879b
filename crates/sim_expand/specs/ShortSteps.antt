-- The steps of a scenario in short form.
use Rattle.std.specs.Prelude.{ℕ, Bool, true, false, List, Option, length, string_bytes}
use Rattle.std.specs.List.{list_any}
use Rattle.sim_expand.specs.declared.short.ShortStep.{ShortStep}
use Rattle.sim_expand.specs.declared.short.ShortStep.TheVariants.{Plain, Settle, Elect}

-- a line that is taken as it stands; a `settle`, with its number or without; or a `settle elect`
pub data Short : Type 0 where
  AsItStands : (line : List ℕ) → Short
  Settles : (count : Option ℕ) → Short
  Elects : Short

abbrev pub short_step : ShortStep → Short
short_step (Plain line) = AsItStands (string_bytes line)
short_step (Settle count) = Settles count
short_step Elect = Elects

abbrev pub is_elect : Short → Bool
is_elect (AsItStands line) = false
is_elect (Settles count) = false
is_elect Elects = true

-- a `settle elect` is among these
abbrev pub has_elect : List Short → Bool
has_elect steps = list_any is_elect steps

-- how many bytes the line of a step has that is taken as it stands
abbrev pub line_bytes : Short → ℕ
line_bytes (AsItStands line) = length line
line_bytes (Settles count) = 0
line_bytes Elects = 0
