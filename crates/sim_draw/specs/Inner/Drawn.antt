-- What is written for the signs that are made of several elements.
use Rattle.std.specs.Prelude.{◌≡◌, ℕ, zero, suc, ◌+◌, ◌*◌, ◌/◌, min, Bool, true, false, nat_eq, nat_lt, ◌-◌, if◌then◌else◌, Option, Some, None, List, [], ◌++◌, length, slice_get, decimal, codes, String, string_bytes}
use Rattle.std.specs.List.{flat_map}
use Rattle.std.specs.declared.alloc.Global.{Global}
use Rattle.sim_draw.specs.declared.layout.Point.{Point}
use Rattle.sim_draw.specs.declared.layout.Side.{Side}
use Rattle.sim_draw.specs.declared.layout.Side.TheVariants.{Left, Right}
use Rattle.sim_draw.specs.declared.layout.Layout.{Layout}
use Rattle.sim_draw.specs.declared.record.Record.{Record}
use Rattle.sim_draw.specs.declared.record.Face.{Face}
use Rattle.sim_draw.specs.declared.record.Step.{Step}
use Rattle.sim_draw.specs.declared.record.Sending.{Sending}
use Rattle.sim_draw.specs.declared.shape.Shape.{Shape}
use Rattle.sim_draw.specs.declared.ink.Ink.{Ink}
use Rattle.sim_draw.specs.declared.ink.Ink.TheVariants as inks
use Rattle.sim_draw.specs.declared.ink.Stroke.{Stroke}
use Rattle.sim_draw.specs.declared.ink.Stroke.TheVariants as strokes
use Rattle.sim_draw.specs.declared.ink.Anchor.{Anchor}
use Rattle.sim_draw.specs.declared.ink.Anchor.TheVariants as anchors
use Rattle.sim_draw.specs.declared.ink.Cover.TheVariants as covers
use Rattle.sim_draw.specs.Inner.Positions.{capped, distance, down_by, up_by, aside_by, opposite, side_towards, point_at, slot_at, row_y, names_again}
use Rattle.sim_draw.specs.Inner.Shapes.{text_of, line_text, bow_text, white_text, words_text, tip_text}

-- what is written for these elements
abbrev pub drawn : List Shape → List ℕ
drawn shapes = flat_map text_of shapes

-- behind these elements others stand, which are written so
abbrev pub Draws : List Shape → List Shape → List ℕ → Type 0
Draws old new more = drawn new ≡ drawn old ++ more

-- the first so many of a row of texts, one behind the other
abbrev pub first_texts : (ℕ → List ℕ) → ℕ → List ℕ
first_texts text zero = []
first_texts text (suc n) = first_texts text n ++ text n

-- a cross around a point
abbrev pub cross_text : Point → ℕ → Stroke → List ℕ
cross_text at reach stroke =
    line_text (up_by (aside_by at Left reach) reach) (down_by (aside_by at Right reach) reach) stroke
    ++ line_text (down_by (aside_by at Left reach) reach) (up_by (aside_by at Right reach) reach) stroke

-- about the width of a character in tenths of a pixel, and its height
abbrev pub ink_width : Ink → ℕ
ink_width inks.Title = 85
ink_width inks.Name = 80
ink_width inks.Legend = 50
ink_width inks.Number = 50
ink_width inks.Lost = 50
ink_width inks.Message = 58
ink_width inks.Refused = 58
ink_width inks.Input = 64
ink_width inks.Note = 72

abbrev pub ink_height : Ink → ℕ
ink_height inks.Title = 13
ink_height inks.Name = 11
ink_height inks.Legend = 8
ink_height inks.Number = 8
ink_height inks.Lost = 8
ink_height _ = 9

-- how wide the front of a text is that is drawn
abbrev pub width_in : Ink → List ℕ → ℕ
width_in ink text = capped (min (length text) 24 * ink_width ink) / 10

-- the left end of a label, and which part of it stands at its point
abbrev pub label_left : Point → Side → ℕ → Point
label_left at Left width = aside_by at Left width
label_left at Right width = at

abbrev pub label_anchor : Side → Anchor
label_anchor Left = anchors.End
label_anchor Right = anchors.Start

-- a text that begins or ends at a point, on white; nothing for an empty one
abbrev pub label_text : Point → Side → Ink → List ℕ → List ℕ
label_text at side ink text = if nat_eq (length text) 0 then [] else
    white_text (up_by (label_left at side (width_in ink text)) (ink_height ink)) (width_in ink text) (capped (ink_height ink + 2)) covers.Thin
    ++ words_text at (label_anchor side) ink text

-- a text whose middle is at a point, on white
abbrev pub name_text : Point → List ℕ → List ℕ
name_text at text =
    white_text (up_by (aside_by at Left (width_in inks.Name text / 2)) 11) (width_in inks.Name text) 15 covers.Whole
    ++ words_text at anchors.Middle inks.Name text

-- the name of a lifeline, of which the first are the servers'
abbrev pub lifeline_name : ℕ → ℕ → List ℕ
lifeline_name servers column =
    if nat_lt column servers then codes "S" ++ decimal (capped (column + 1)) else codes "c" ++ decimal (capped (column - servers + 1))

-- the name of a lifeline once more, where one stands above an event
abbrev pub band_in : Layout → ℕ → List ℕ → ℕ → List ℕ
band_in layout column text row = if names_again row then name_text (up_by (point_at layout column row) 22) text else []

-- a part of a lifeline: thick where a server leads, nothing where the actor is down
abbrev pub life : Bool → Stroke
life true = strokes.Leads
life false = strokes.Life

abbrev pub stretch_text : Point → Point → Face → List ℕ
stretch_text from to face = if face.up then line_text from to (life face.leads) else []

-- the line of an arrow: dashed where the message had come before
abbrev pub way : Bool → Stroke
way true = strokes.Again
way false = strokes.Came

-- by way of which place an arrow is bent, that ends at a point
abbrev pub bend : Layout → Sending → Point → ℕ
bend layout sending end =
    (aside_by (point_at layout sending.from sending.row) (opposite (side_towards sending.to sending.from))
    (distance (point_at layout sending.from sending.row).x end.x / 4)).x

-- an arrow to another actor: bent where it passes others
abbrev pub way_text : Layout → Sending → Point → Bool → List ℕ
way_text layout sending end again =
    if nat_lt (distance sending.from sending.to) 2
    then line_text (point_at layout sending.from sending.row) end (way again)
    else bow_text (point_at layout sending.from sending.row) end (bend layout sending end) (way again)

-- The arrow of a message from the event in which it was sent to the one in which it came; a bow
-- where its actor sent it to itself.
abbrev pub arrow_text : Layout → Sending → ℕ → Bool → List ℕ
arrow_text layout sending row again =
    if nat_eq sending.from sending.to
    then bow_text (point_at layout sending.from sending.row)
    (aside_by (point_at layout sending.to row) Right 4)
    (aside_by (point_at layout sending.from sending.row) Right 44).x (way again)
    else way_text layout sending
    (aside_by (point_at layout sending.to row) (side_towards sending.to sending.from) 4) again

-- the arrow of a message that came with an event and was not refused
abbrev pub arrow_of : Layout → Option Sending → ℕ → Bool → List ℕ
arrow_of layout None row again = []
arrow_of layout (Some sending) row again = arrow_text layout sending row again

abbrev pub arrow_for : Layout → List Sending → ℕ → Bool → Option ℕ → Option ℕ → List ℕ
arrow_for layout sendings row again None refusal = []
arrow_for layout sendings row again (Some place) (Some number) = []
arrow_for layout sendings row again (Some place) None = arrow_of layout (slice_get sendings place) row again

abbrev pub arrow_at : Layout → List Sending → ℕ → Option Step → List ℕ
arrow_at layout sendings row None = []
arrow_at layout sendings row (Some step) = arrow_for layout sendings row step.again step.message step.refusal

-- the arrow of the event in this row, if it has one
abbrev pub arrow_in : Layout → Record → ℕ → List ℕ
arrow_in layout run row = arrow_at layout run.sendings.items row (slice_get run.steps.items row)

-- what is drawn for a message that never came, with its label
abbrev pub stub_end : Layout → ℕ → Sending → Point
stub_end layout message sending =
    down_by (aside_by (point_at layout sending.from sending.row) (side_towards sending.from sending.to) 26)
    (capped (capped (slot_at layout message * 10) + 6))

-- the cross where it was lost, with its label
abbrev pub lost_end_text : Point → Side → List ℕ → List ℕ
lost_end_text end side text =
    cross_text end 3 strokes.Lost ++ label_text (down_by (aside_by end side 7) 3) side inks.Lost text

abbrev pub stub_text : Layout → ℕ → Sending → List ℕ → List ℕ
stub_text layout message sending text =
    line_text (point_at layout sending.from sending.row) (stub_end layout message sending) strokes.Lost
    ++ lost_end_text (stub_end layout message sending) (side_towards sending.from sending.to) text

-- the upper left corner of the row of an event
abbrev pub row_corner : Layout → ℕ → Point
row_corner layout row = up_by (record { x = 0; y = row_y layout row }) 11

-- what is told of the event in a row, over all its row
abbrev pub tip_of : Layout → ℕ → ℕ → Option (String Global) → List ℕ
tip_of layout width row None = []
tip_of layout width row (Some line) = tip_text (row_corner layout row) width 22 (string_bytes line)

abbrev pub tip_in : Layout → ℕ → List (String Global) → ℕ → List ℕ
tip_in layout width told row = tip_of layout width row (slice_get told row)
