-- What stands among the steps of a scenario in short form.
use Rattle.std.specs.Prelude.{◌≡◌, ℕ, List}
use Rattle.serde_json.specs.Data.{Data, string}
use Rattle.serde_json.specs.View.{items_view}
use Rattle.sim_expand.specs.declared.short.Part.{Part}
use Rattle.sim_expand.specs.declared.short.Part.TheVariants.{Step, Repeat}
use Rattle.sim_expand.specs.Shorts.{IsRepeat, IsShortLine}
use Rattle.sim_expand.specs.ShortSteps.{short_step}

-- a line with its step, or a list with how often it is taken
abbrev pub IsPartOf : Data → Part → Type 0
IsPartOf d (Step step) = (line : List ℕ) × (d ≡ string line) × IsShortLine (short_step step) line
IsPartOf d (Repeat times list) = IsRepeat d times (items_view list.now.items)
