-- What is made of what the agent answers.
use Rattle.std.specs.Prelude.{◌≡◌, Bool, true, false, Option, Some, None, Result, Ok, Err}
use Rattle.rows.specs.declared.refusal.Refusal.{Refusal}
use Rattle.rows.specs.declared.refusal.Refusal.TheVariants as refusals
use Rattle.actor.specs.declared.stepped.Stepped.{Stepped}
use Rattle.actor.specs.declared.stepped.Stepped.TheVariants.{Taken}

abbrev pub is_memory : Refusal → Bool
is_memory refusals.NoMemory = true
is_memory _ = false

-- it was taken, or refused for this cause
abbrev pub IsOutcome : Result Stepped Refusal → Option Refusal → Type 0
IsOutcome done None = done ≡ Ok Taken
IsOutcome done (Some cause) = (done ≡ Err cause) × (is_memory cause ≡ false)
