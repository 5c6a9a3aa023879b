-- What becomes of the steps of a scenario, in order.
use Rattle.std.specs.Prelude.{◌≡◌, ◌⊎◌, ◌++◌, ◌∷◌, ℕ, List, [], Option, None, Some}
use Rattle.rows.specs.declared.refusal.Refusal.{Refusal}
use Rattle.sim_scenario.specs.Steps.{IsLine, Step}

-- a refusal, and the line of what is refused
abbrev pub Refused : Type 0
Refused = Refusal × List ℕ

-- on a stage, of which it is known what a step does that is taken, and what one that is refused
module _ {S : Type 0} (Takes : Step → S → S → Type 0) (Refuses : Step → S → Refusal → S → Type 0) where
  -- the step of this line is taken, and nothing is refused; or it is refused, by its line
  pub record LinePlayed (line : List ℕ) (old : S) (refused : List Refused) (new : S) : Type 0 where
    pub step : Step
    pub named : IsLine step line
    pub became : (Takes step old new × (refused ≡ []))
        ⊎ ((refusal : Refusal) × Refuses step old refusal new × (refused ≡ (refusal, line) ∷ []))

  -- each of these lines once, and in order
  abbrev pub LinesPlayed : List (List ℕ) → S → List Refused → S → Type 0
  LinesPlayed [] old refused new = (refused ≡ []) × (new ≡ old)
  LinesPlayed (line ∷ lines) old refused new =
      (own : List Refused) × (others : List Refused) × (between : S) × (refused ≡ own ++ others)
      × LinePlayed line old own between × LinesPlayed lines between others new

-- what is refused where this is the refusal of a line, if it is refused
abbrev pub refused_as : List ℕ → Option Refusal → List Refused
refused_as line None = []
refused_as line (Some refusal) = (refusal, line) ∷ []
