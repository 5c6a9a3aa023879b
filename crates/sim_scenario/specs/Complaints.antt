-- What is wrong with the text of a scenario, and texts with which nothing is wrong.
use Rattle.std.specs.Prelude.{◌≡◌, ◌⊎◌, ◌+◌, ◌≤◌, ◌↔◌, ℕ, suc, List, [], ◌∷◌, Some, slice_get, string_bytes}
use Rattle.std.specs.List.{All, Contains}
use Rattle.sim_scenario.specs.declared.checking.Complaint.{Complaint}
use Rattle.sim_scenario.specs.declared.checking.Complaint.TheVariants as complaints
use Rattle.sim_scenario.specs.declared.scenario.Scenario.{Scenario}
use Rattle.sim_scenario.specs.EachLine.{OfEachLine}
use Rattle.sim_scenario.specs.Objects.{IsScenarioText, step_lines}
use Rattle.sim_scenario.specs.Steps.{Step, IsLine}

-- the line of some step
abbrev pub IsStepLine : List ℕ → Type 0
IsStepLine line = (step : Step) × IsLine step line

-- each step is one
abbrev pub IsGood : Scenario → Type 0
IsGood s = All IsStepLine (step_lines s)

-- the text is a scenario, each step of which is one
abbrev pub IsGoodText : List ℕ → Type 0
IsGoodText text = (s : Scenario) × IsScenarioText text s × IsGood s

-- it is of the step of this number, and shows its line
abbrev pub IsStepComplaint : ℕ → List ℕ → Complaint → Type 0
IsStepComplaint number line (complaints.Text wrong) = ⊥
IsStepComplaint number line (complaints.Step k text flaw) = (k ≡ number) × (string_bytes text ≡ line)

-- it is of the whole text
abbrev pub IsTextComplaint : Complaint → Type 0
IsTextComplaint (complaints.Text wrong) = Unit {0}
IsTextComplaint (complaints.Step k text flaw) = ⊥

-- what is wrong with a line: nothing where it is a step's, else one complaint
abbrev pub AreLineComplaints : ℕ → List ℕ → List Complaint → Type 0
AreLineComplaints number line found =
    (IsStepLine line × (found ≡ []))
    ⊎ ((¬ IsStepLine line) × ((one : Complaint) × (found ≡ one ∷ []) × IsStepComplaint number line one))

-- one complaint, of the whole text
abbrev pub AreTextComplaints : List Complaint → Type 0
AreTextComplaints found = (one : Complaint) × (found ≡ one ∷ []) × IsTextComplaint one

-- what is wrong with a text: of a scenario what is wrong with each line in turn, steps being counted
-- from 1; else one complaint
abbrev pub AreComplaints : List ℕ → List Complaint → Type 0
AreComplaints text found =
    ((s : Scenario) × IsScenarioText text s × OfEachLine AreLineComplaints 1 (step_lines s) found)
    ⊎ (((s : Scenario) → ¬ IsScenarioText text s) × AreTextComplaints found)

-- ---- of a scenario

-- it is of the step of this number
abbrev pub IsOfStep : ℕ → Complaint → Type 0
IsOfStep number (complaints.Text wrong) = ⊥
IsOfStep number (complaints.Step k text flaw) = k ≡ number

-- one of these is of the step of this number
abbrev pub IsNamed : List Complaint → ℕ → Type 0
IsNamed found number = (one : Complaint) × Contains found one × IsOfStep number one

-- the line with this number, the first being k, is no step's
abbrev pub IsWrongFrom : ℕ → List (List ℕ) → ℕ → Type 0
IsWrongFrom k lines number =
    (i : ℕ) × (line : List ℕ) × (number ≡ k + i) × (slice_get lines i ≡ Some line) × ¬ IsStepLine line

-- each is of a step, and the numbers of these rise, from k on
abbrev pub AreRisingFrom : ℕ → List Complaint → Type 0
AreRisingFrom k [] = Unit {0}
AreRisingFrom k (complaints.Text wrong ∷ others) = ⊥
AreRisingFrom k (complaints.Step number text flaw ∷ others) = (k ≤ number) × AreRisingFrom (suc number) others

-- a step is named just where it is none, and the steps are named in order
pub record NamesWrongSteps (s : Scenario) (found : List Complaint) : Type 0 where
  pub named : (number : ℕ) → IsNamed found number ↔ IsWrongFrom 1 (step_lines s) number
  pub rising : AreRisingFrom 1 found
