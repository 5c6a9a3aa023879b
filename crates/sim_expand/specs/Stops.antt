-- Why a scenario in short form is not expanded.
use Rattle.std.specs.Prelude.{◌≡◌, ◌⊎◌, ◌≤◌, ℕ, List, false}
use Rattle.std.specs.List.{All}
use Rattle.rows.specs.declared.node.NodeSpec.{NodeSpec}
use Rattle.rows.specs.declared.refusal.Refusal.{Refusal}
use Rattle.rows.specs.declared.refusal.Refusal.TheVariants.{NoMemory, OutOfRange}
use Rattle.sim_scenario.specs.Complaints.{IsStepLine}
use Rattle.sim_scenario.specs.declared.scenario.Settings.{Settings}
use Rattle.sim_play.specs.Plays.{MakesGroup}
use Rattle.sim_expand.specs.Counts.{AreMost}
use Rattle.sim_expand.specs.ShortSteps.{Short, AsItStands, Settles, Elects}

-- what is taken as it stands is the line of a step
abbrev pub IsGoodShort : Short → Type 0
IsGoodShort (AsItStands line) = IsStepLine line
IsGoodShort (Settles count) = Unit {0}
IsGoodShort Elects = Unit {0}

-- there is such a group, each line that is taken as it stands is a step's, and the steps come to
-- 1,000,000 lines at most
pub record CanBeExpanded (settings : Settings) (nodes : List NodeSpec) (steps : List Short) : Type 0 where
  pub group : MakesGroup settings nodes
  pub good : All IsGoodShort steps
  pub few : (most : ℕ) × AreMost false steps most × (most ≤ 1_000_000)

-- there is no memory, or these are not all of that kind
abbrev pub WhyNotExpanded : Settings → List NodeSpec → List Short → Refusal → Type 0
WhyNotExpanded settings nodes steps refusal =
    (refusal ≡ NoMemory) ⊎ ((refusal ≡ OutOfRange) × ¬ CanBeExpanded settings nodes steps)
