-- What is written for the signs in the row of an event.
use Rattle.std.specs.Prelude.{ℕ, ◌+◌, Bool, true, false, nat_eq, if◌then◌else◌, Option, Some, None, List, [], ◌++◌, length, slice_get, decimal, codes}
use Rattle.sim_draw.specs.declared.layout.Point.{Point}
use Rattle.sim_draw.specs.declared.layout.Side.{Side}
use Rattle.sim_draw.specs.declared.layout.Side.TheVariants.{Left, Right}
use Rattle.sim_draw.specs.declared.record.Step.{Step}
use Rattle.sim_draw.specs.declared.record.Sending.{Sending}
use Rattle.sim_draw.specs.declared.ink.Ink.TheVariants as inks
use Rattle.sim_draw.specs.declared.ink.Stroke.TheVariants as strokes
use Rattle.sim_draw.specs.declared.ink.Spot.TheVariants as spots
use Rattle.sim_draw.specs.Inner.Positions.{capped, down_by, aside_by, side_towards, opposite, names_between}
use Rattle.sim_draw.specs.Inner.Shapes.{line_text, circle_text}
use Rattle.sim_draw.specs.Inner.Notes.{applies_more}
use Rattle.sim_draw.specs.Inner.Drawn.{width_in, label_text, cross_text}

-- the number of a message that came, from 1
abbrev pub message_number : ℕ → Option ℕ → List ℕ
message_number y None = []
message_number y (Some place) =
    label_text (down_by (record { x = 70; y = y }) 3) Left inks.Number (codes "#" ++ decimal (capped (place + 1)))

-- that of the event, from 1
abbrev pub event_number : ℕ → ℕ → List ℕ
event_number y row =
    label_text (down_by (record { x = 34; y = y }) 3) Left inks.Number (decimal (capped (row + 1)))

-- and behind it that of the message
abbrev pub numbers_text : ℕ → ℕ → Option ℕ → List ℕ
numbers_text y row message = event_number y row ++ message_number y message

-- the event in which a message was sent that came, where the names of the lifelines stand between
abbrev pub origin_of_sending : ℕ → Option Sending → Option ℕ
origin_of_sending row None = None
origin_of_sending row (Some sending) = if names_between sending.row row then Some sending.row else None

abbrev pub origin_at : List Sending → ℕ → Option ℕ → Option ℕ → Option ℕ
origin_at sendings row None refusal = None
origin_at sendings row (Some place) (Some number) = None
origin_at sendings row (Some place) None = origin_of_sending row (slice_get sendings place)

abbrev pub origin_number : ℕ → Option ℕ → List ℕ
origin_number y None = []
origin_number y (Some row) =
    label_text (down_by (record { x = 74; y = y }) 3) Right inks.Number (codes "from " ++ decimal (capped (row + 1)))

-- the side of an event's label: the one that the message does not come from; else the right one
abbrev pub side_of_sending : ℕ → Option Sending → Side
side_of_sending column None = Right
side_of_sending column (Some sending) = opposite (side_towards column sending.from)

abbrev pub label_side : List Sending → Option ℕ → Option ℕ → Side
label_side sendings None column = Right
label_side sendings (Some place) None = Right
label_side sendings (Some place) (Some column) = side_of_sending column (slice_get sendings place)

-- how wide a note is
abbrev pub note_width : List ℕ → ℕ
note_width note = if nat_eq (length note) 0 then 0 else capped (width_in inks.Note note + 8)

-- a tick across the lifeline where an actor applied entries
abbrev pub tick_text : Point → Step → List ℕ
tick_text at step = if applies_more step.before step.after then line_text (aside_by at Left 8) (aside_by at Right 8) strokes.Commit else []

-- a cross where an actor stops, a circle where it begins again, else a dot
abbrev pub spot_text : Point → Bool → Bool → List ℕ
spot_text at true false = cross_text at 6 strokes.Crash
spot_text at false true = circle_text at spots.Begins
spot_text at _ _ = circle_text at spots.Event

abbrev pub mark_for : Point → Step → Option ℕ → List ℕ
mark_for at step (Some number) = circle_text at spots.Refused
mark_for at step None = tick_text at step ++ spot_text at step.before.up step.after.up

abbrev pub mark_text : Point → Step → List ℕ
mark_text at step = mark_for at step step.refusal
