-- What the steps of a scenario do.
use Rattle.std.specs.Prelude.{unwrap_or}
use Rattle.rows.specs.declared.refusal.Refusal.{Refusal}
use Rattle.sim_scenario.specs.Steps.{AnEvent, Flow, Step, Work}
use Rattle.sim_play.specs.declared.play.Play.{Play}
use Rattle.sim_play.specs.Flows.{Flowed}
use Rattle.sim_play.specs.PlayEvents.{EventRefused, EventTaken}
use Rattle.sim_play.specs.PlayWork.{WorkRefused, WorkTaken}

-- a flow whose line does not say how many messages it takes takes 10,000 at most
abbrev pub StepTaken : Step → Play → Play → Type 0
StepTaken (AnEvent event) old new = EventTaken old event new
StepTaken (Work server) old new = WorkTaken old server new
StepTaken (Flow count) old new = Flowed (unwrap_or count 10000) old new

-- a flow is not refused
abbrev pub StepRefused : Step → Play → Refusal → Play → Type 0
StepRefused (AnEvent event) old refusal new = EventRefused old event refusal new
StepRefused (Work server) old refusal new = WorkRefused old server refusal new
StepRefused (Flow count) old refusal new = ⊥
