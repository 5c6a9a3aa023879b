-- The lines of steps.
use Rattle.std.specs.Prelude.{◌≡◌, ◌<◌, ◌^◌, ℕ, List, [], ◌∷◌, Option, Some, None, codes, decimal}
use Rattle.std.specs.List.{join_with_byte}
use Rattle.group_model.specs.Worlds.{Event}
use Rattle.group_inputs.specs.Events.{group_event}
use Rattle.event_texts.specs.EventLines.{IsEventLine, ServerFits, server_text}
use Rattle.sim_scenario.specs.declared.step.Step.{Step as ReadStep}
use Rattle.sim_scenario.specs.declared.step.Step.TheVariants as steps

-- an event of the group, a turn of a server's worker, or a flow of messages
pub data Step : Type 0 where
  AnEvent : (event : Event) → Step
  Work : (server : ℕ) → Step
  Flow : (count : Option ℕ) → Step

abbrev pub played_step : ReadStep → Step
played_step (steps.Event event) = AnEvent (group_event event)
played_step (steps.Work server) = Work server
played_step (steps.Flow count) = Flow count

-- the one line of a step whose values are within their limits
abbrev pub IsLine : Step → List ℕ → Type 0
IsLine (AnEvent event) line = IsEventLine event line
IsLine (Work server) line = ServerFits server × (line ≡ join_with_byte 32 (codes "work" ∷ server_text server ∷ []))
IsLine (Flow None) line = line ≡ codes "flow"
IsLine (Flow (Some count)) line = (count < 2 ^ 64) × (line ≡ join_with_byte 32 (codes "flow" ∷ decimal count ∷ []))
