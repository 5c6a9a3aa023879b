-- What is written: lines.
use Rattle.std.specs.Prelude.{ℕ, ◌<◌, Option, List, length}
use Rattle.std.specs.Io.KnownBytes.{Appends}
use Rattle.sim_playback.specs.Lines.{lines_text}

-- what an output holds, if that is known, is the same and some lines more, one at least
abbrev pub GrowsByLines : Option (List ℕ) → Option (List ℕ) → Type 0
GrowsByLines old new =
    (lines : List (List ℕ)) × (0 < length lines) × Appends old new (lines_text lines)
