-- Whether a refusal is want of memory.
use Rattle.std.specs.Prelude.{Bool, true, false}
use Rattle.rows.specs.declared.refusal.Refusal.{Refusal}
use Rattle.rows.specs.declared.refusal.Refusal.TheVariants as refusals

abbrev pub is_memory : Refusal → Bool
is_memory refusals.NoMemory = true
is_memory _ = false
