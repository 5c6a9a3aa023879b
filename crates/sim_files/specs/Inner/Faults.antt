-- What a check of a scenario may end by.
use Rattle.std.specs.Prelude.{◌≡◌, ◌⊎◌}
use Rattle.sim_files.specs.declared.fault.Fault.{Fault}
use Rattle.sim_files.specs.declared.fault.Fault.TheVariants.{BadScenario}
use Rattle.sim_files.specs.Faults.{MayStopPrinting}

-- memory is wanting or the output failed, or something is wrong with the scenario
abbrev pub MayStopChecking : Type 0 → Fault → Type 0
MayStopChecking Is fault = MayStopPrinting fault ⊎ ((fault ≡ BadScenario) × ¬ Is)
