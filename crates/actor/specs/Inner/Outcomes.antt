-- What became of what came to an actor.
use Rattle.std.specs.Prelude.{Bool, if◌then◌else◌, Result, Ok, Err}
use Rattle.rows.specs.declared.refusal.Refusal.{Refusal}
use Rattle.rows.specs.declared.refusal.Refusal.TheVariants as refusals
use Rattle.actor.specs.declared.stepped.Stepped.{Stepped}
use Rattle.actor.specs.declared.stepped.Stepped.TheVariants.{Taken, Crashed}

-- one that was to start again stays as it was, any other crashed
abbrev pub without_memory : Bool → Result Stepped Refusal
without_memory again = if again then Err refusals.NoMemory else Ok Crashed

abbrev pub refused : Bool → Refusal → Result Stepped Refusal
refused again refusals.NoMemory = without_memory again
refused again cause = Err cause

abbrev pub outcome : {X : Type 0} → Bool → Result X Refusal → Result Stepped Refusal
outcome again (Ok x) = Ok Taken
outcome again (Err cause) = refused again cause
