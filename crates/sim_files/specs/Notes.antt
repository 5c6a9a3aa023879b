-- What the program tells of a scenario with which nothing is wrong.
use Rattle.std.specs.Prelude.{◌≡◌, ◌++◌, ◌∷◌, ℕ, List, [], Option, IfSome}
use Rattle.std.specs.Io.KnownBytes.{Appends}
use Rattle.std.specs.List.{flat_map}
use Rattle.sim_scenario.specs.declared.noting.Note.{Note}
use Rattle.sim_scenario.specs.declared.scenario.Scenario.{Scenario}
use Rattle.sim_scenario.specs.Complaints.{IsGoodText}
use Rattle.sim_scenario.specs.Notes.{AreNotes, note_text}
use Rattle.sim_scenario.specs.Objects.{IsScenarioText}

abbrev pub note_line : Note → List ℕ
note_line note = note_text note ++ 10 ∷ []

-- the output grows by a line for each note of the scenario that a text is
abbrev pub ShowsNotes : List ℕ → Option (List ℕ) → Option (List ℕ) → Type 0
ShowsNotes text old new =
    (s : Scenario) × IsScenarioText text s
    × ((notes : List Note) × AreNotes s notes × Appends old new (flat_map note_line notes))

-- nothing is wrong with a scenario, which is that of the file, where its bytes are known
pub record TellsNotes (file : Option (List ℕ)) (status : ℕ) (old new : Option (List ℕ)) : Type 0 where
  pub text : List ℕ
  pub read : IfSome file (λ known. text ≡ known)
  pub good : IsGoodText text
  pub notes : ShowsNotes text old new
  pub taken : status ≡ 0
