-- What a line is read as.
use Rattle.std.specs.Prelude.{◌≡◌, ℕ, Option, Some, None, List}
use Rattle.group_model.specs.Worlds.{Event}
use Rattle.group_inputs.specs.declared.event.Event.{Event as GroupEvent}
use Rattle.group_inputs.specs.Events.{group_event}
use Rattle.event_texts.specs.EventLines.{IsEventLine}

-- the event whose line it is, if there is one
abbrev pub IsReadAs : List ℕ → Option GroupEvent → Type 0
IsReadAs line None = (event : Event) → IsEventLine event line → ⊥
IsReadAs line (Some found) = IsEventLine (group_event found) line × ((event : Event) → IsEventLine event line → group_event found ≡ event)
