-- What a list of steps comes to, as it is counted and kept.
use Rattle.std.specs.Prelude.{◌≡◌, ◌⊎◌, ◌++◌, List, length, map, sum_by}
use Rattle.rows.specs.declared.refusal.Refusal.{Refusal}
use Rattle.rows.specs.declared.refusal.Refusal.TheVariants.{NoMemory, OutOfRange}
use Rattle.sim_expand.specs.declared.short.Total.{Total}
use Rattle.sim_expand.specs.ShortSteps.{Short, line_bytes, short_step}
use Rattle.sim_expand.specs.Shorts.{AreFew}

-- so many steps, and so many bytes of their lines
pub record IsCounted (steps : List Short) (total : Total) : Type 0 where
  pub count : total.count ≡ length steps
  pub bytes : total.bytes ≡ sum_by line_bytes steps

-- and just these, where they are kept
abbrev pub IsTotal : Type 0 → List Short → Total → Type 0
IsTotal Kept steps total = IsCounted steps total × (Kept → map short_step total.steps.items ≡ steps)

-- these are put behind those that were there, and all together are few
abbrev pub PutsBehind : Type 0 → Total → List Short → Total → Type 0
PutsBehind Kept old own new =
    (steps : List Short) → IsTotal Kept steps old → AreFew (steps ++ own) × IsTotal Kept (steps ++ own) new

-- there is no memory, or all together are too many
abbrev pub WhyNotPut : Total → List Short → Refusal → Type 0
WhyNotPut old own refusal =
    (refusal ≡ NoMemory)
    ⊎ ((refusal ≡ OutOfRange) × ((steps : List Short) → IsCounted steps old → ¬ AreFew (steps ++ own)))
