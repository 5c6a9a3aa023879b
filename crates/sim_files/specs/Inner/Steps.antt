-- The steps of a scenario's lines.
use Rattle.std.specs.Prelude.{ℕ, List}
use Rattle.std.specs.List.{AllZip}
use Rattle.sim_scenario.specs.declared.step.Step.{Step}
use Rattle.sim_scenario.specs.Steps.{IsLine, played_step}

-- each is that of its line
abbrev pub AreSteps : List Step → List (List ℕ) → Type 0
AreSteps = AllZip (λ step line. IsLine (played_step step) line)
