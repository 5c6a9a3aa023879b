-- What is made of what the server answers.
use Rattle.std.specs.Prelude.{Bool, true, false, Option, Some, None}
use Rattle.rows.specs.declared.refusal.Refusal.{Refusal}
use Rattle.rows.specs.declared.refusal.Refusal.TheVariants as refusals
use Rattle.group_model.specs.Inputs.{Compact}
use Rattle.group_inputs.specs.Handings.{Handing, FrameBytes, OwnInput}
use Rattle.server.specs.Keeping.{StandsLast}
use Rattle.server.specs.ServerViews.{ServerView}

abbrev pub is_memory : Refusal → Bool
is_memory refusals.NoMemory = true
is_memory _ = false

abbrev pub is_compact : Handing → Bool
is_compact (FrameBytes bytes) = false
is_compact (OwnInput Compact) = true
is_compact (OwnInput _) = false

-- a request that was not refused stands last in the log
abbrev pub StandsWhereTaken : Handing → ServerView → Option Refusal → Type 0
StandsWhereTaken h new None = StandsLast h new
StandsWhereTaken h new (Some cause) = Unit {0}
