-- What is wrong with the text of a scenario in short form.
use Rattle.std.specs.Prelude.{◌≡◌, ◌≢◌, ◌⊎◌, List, ℕ, []}
use Rattle.std.specs.List.{All}
use Rattle.sim_expand.specs.declared.checking.ShortComplaint.{ShortComplaint}
use Rattle.sim_expand.specs.declared.short.ShortScenario.{ShortScenario}
use Rattle.sim_expand.specs.declared.short.ShortStep.{ShortStep}
use Rattle.sim_expand.specs.ShortSteps.{short_step}
use Rattle.sim_expand.specs.Shorts.{IsShortText}
use Rattle.sim_expand.specs.Stops.{IsGoodShort}

-- each of these is good
abbrev pub AreGood : List ShortStep → Type 0
AreGood steps = All (λ step. IsGoodShort (short_step step)) steps

-- the text is a scenario in short form, each step of which is good
abbrev pub IsGoodShortText : List ℕ → Type 0
IsGoodShortText text = (s : ShortScenario) × IsShortText text s × AreGood s.steps.items

-- the text is no scenario in short form, or one of which a step is not good
abbrev pub IsBadShortText : List ℕ → Type 0
IsBadShortText text =
    ((s : ShortScenario) → ¬ IsShortText text s)
    ⊎ ((s : ShortScenario) × IsShortText text s × ¬ AreGood s.steps.items)

-- nothing is found of a good text, and something of a bad one
abbrev pub AreShortComplaints : List ℕ → List ShortComplaint → Type 0
AreShortComplaints text found =
    (IsGoodShortText text × (found ≡ [])) ⊎ (IsBadShortText text × (found ≢ []))
