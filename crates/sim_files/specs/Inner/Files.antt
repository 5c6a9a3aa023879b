-- The bytes of a scenario's file.
use Rattle.std.specs.Prelude.{ℕ, List}
use Rattle.std.specs.Str.{IsUtf8}
use Rattle.sim_scenario.specs.declared.scenario.Scenario.{Scenario}
use Rattle.sim_scenario.specs.Objects.{IsScenarioText}

-- they are UTF-8, and a scenario
abbrev pub IsScenarioFile : List ℕ → Type 0
IsScenarioFile bytes = IsUtf8 bytes × ((s : Scenario) × IsScenarioText bytes s)
