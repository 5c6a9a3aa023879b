-- What becomes of the steps of a scenario, in order.
use Rattle.std.specs.Prelude.{ℕ, List, Option, IfSome}
use Rattle.rows.specs.declared.refusal.Refusal.{Refusal}
use Rattle.event_texts.specs.Transcripts.{IsTranscript}
use Rattle.transcript.specs.Records.{record_of}
use Rattle.sim_scenario.specs.declared.scenario.Scenario.{Scenario}
use Rattle.sim_scenario.specs.Complaints.{IsGood}
use Rattle.sim_scenario.specs.Objects.{IsScenarioText, step_lines}
use Rattle.sim_scenario.specs.Steps.{Step}
use Rattle.sim_play.specs.declared.play.Play.{Play}
use Rattle.sim_play.specs.Played.{LinesPlayed, Refused}
use Rattle.sim_play.specs.PlaySteps.{StepRefused, StepTaken}
use Rattle.sim_play.specs.Plays.{IsNewPlay}
use Rattle.sim_files.specs.Refusals.{TellsRefusals, TellsRun}

-- ---- on a stage, of which it is known what a step does that is taken, and what one that is refused

module _ {S : Type 0} (Takes : Step → S → S → Type 0) (Refuses : Step → S → Refusal → S → Type 0) where
  -- what became of these lines, and the output grows by the lines of what is refused
  abbrev pub TellsLines : List (List ℕ) → S → S → ℕ → Option (List ℕ) → Option (List ℕ) → Type 0
  TellsLines lines first last status old new =
      (refused : List Refused) × LinesPlayed Takes Refuses lines first refused last × TellsRefusals refused status old new

-- ---- on a group and its messages in flight

-- A scenario was played, each of whose lines is a step's: that of the file, where its bytes are
-- known. Each of its steps came to a new group of its own. Told are those that were refused, and the
-- last lines of the group; and of that the transcript is, where the bytes of that are known.
pub record TellsPlay (file written : Option (List ℕ)) (status : ℕ) (old new : Option (List ℕ)) : Type 0 where
  pub scenario : Scenario
  pub read : IfSome file (λ text. IsScenarioText text scenario)
  pub good : IsGood scenario
  pub first : Play
  pub last : Play
  pub begun : IsNewPlay scenario.settings scenario.nodes.items first
  pub refused : List Refused
  pub played : LinesPlayed StepTaken StepRefused (step_lines scenario) first refused last
  pub recorded : IfSome written (IsTranscript (record_of last.world))
  pub told : TellsRun refused last.world status old new
