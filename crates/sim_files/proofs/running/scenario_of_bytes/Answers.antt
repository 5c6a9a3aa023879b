use Rattle.std.proofs.Common.{subst, sym}
use Rattle.std.proofs.lemmas.Result.{IfErr-weaker}
use Rattle.sim_scenario.specs.declared.scenario.Scenario.{Scenario}
use Rattle.sim_scenario.specs.Objects.{IsScenarioText}
use Rattle.sim_files.proofs.Reasons.{stops_reading}
use Rattle.sim_files.proofs.running.scenario_of_bytes.Goals as goal

pub returns-in-Ok-clause-fault : goal.returns-in-Ok-clause-fault
returns-in-Ok-clause-fault c =
    IfErr-weaker c.scenario_of_text.result _ _
    (λ fault. stops_reading fault (λ file. subst (λ text. (s : Scenario) × IsScenarioText text s) (sym c.in-Ok.ensures.cases.0) file.1))
    c.scenario_of_text.ensures.fault
