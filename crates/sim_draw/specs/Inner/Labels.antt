-- What stands in the row of an event.
use Rattle.std.specs.Prelude.{ℕ, nat_eq, if◌then◌else◌, Option, Some, None, List, [], ◌++◌, length, slice_get, decimal, codes}
use Rattle.wire.specs.Frames.{Frame}
use Rattle.group_inputs.specs.declared.event.Event.{Event}
use Rattle.sim_labels.specs.Labels.{event_label, frame_label, named_label}
use Rattle.sim_draw.specs.declared.ink.Ink.{Ink}
use Rattle.sim_draw.specs.declared.ink.Ink.TheVariants as inks

-- what was sent at a place, if anything
abbrev pub sent_label : Option Frame → List ℕ
sent_label None = []
sent_label (Some frame) = frame_label frame.bytes

-- How what stands beside an event looks, by the number of its refusal and by the place of the message
-- that came.
abbrev pub said_ink : Option ℕ → Option ℕ → Ink
said_ink (Some number) message = inks.Refused
said_ink None (Some place) = inks.Message
said_ink None None = inks.Input

-- what stands beside an event that is refused: the number of the refusal, and whose input it was
abbrev pub refused_label : ℕ → List ℕ → List ℕ
refused_label number input =
    if nat_eq (length input) 0 then codes "refused " ++ decimal number
    else codes "refused " ++ (decimal number ++ (codes " " ++ input))

-- What stands beside an event, by the number of its refusal and by the place of the message that
-- came.
abbrev pub said_text : List Frame → Event → Option ℕ → Option ℕ → List ℕ
said_text sent event (Some number) message = refused_label number (named_label event)
said_text sent event None (Some place) = sent_label (slice_get sent place)
said_text sent event None None = event_label event
