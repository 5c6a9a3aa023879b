-- Where things stand, in pixels from the upper left corner. A number that passes the greatest of 64
-- bits is that one.
use Rattle.std.specs.Prelude.{ℕ, ◌+◌, ◌-◌, ◌*◌, ◌/◌, ◌^◌, ◌%◌, max, min, Bool, ◌&&◌, nat_eq, nat_lt, if◌then◌else◌, Option, Some, slice_get}
use Rattle.std.specs.Option.{unwrap_or}
use Rattle.sim_draw.specs.declared.layout.Point.{Point}
use Rattle.sim_draw.specs.declared.layout.Side.{Side}
use Rattle.sim_draw.specs.declared.layout.Side.TheVariants.{Left, Right}
use Rattle.sim_draw.specs.declared.layout.Layout.{Layout}

abbrev pub capped : ℕ → ℕ
capped n = min n (2 ^ 64 - 1)

-- the point that lies so much farther down, and up
abbrev pub down_by : Point → ℕ → Point
down_by p by = record { x = p.x; y = capped (p.y + by) }

abbrev pub up_by : Point → ℕ → Point
up_by p by = record { x = p.x; y = p.y - by }

-- the point that lies so much farther to a side
abbrev pub aside_by : Point → Side → ℕ → Point
aside_by p Left by = record { x = p.x - by; y = p.y }
aside_by p Right by = record { x = capped (p.x + by); y = p.y }

-- the side of one lifeline on which another stands; of its own, the right one
abbrev pub side_towards : ℕ → ℕ → Side
side_towards from to = if nat_lt to from then Left else Right

abbrev pub opposite : Side → Side
opposite Left = Right
opposite Right = Left

-- how far two numbers are apart
abbrev pub distance : ℕ → ℕ → ℕ
distance one other = max one other - min one other

-- how far each of so many lifelines stands from the one before it
abbrev pub pitch : ℕ → ℕ
pitch columns = max (min (1600 / max columns 1) 150) 32

abbrev pub lifeline_x : ℕ → ℕ → ℕ
lifeline_x by column = capped (capped (by * column) + 290)

-- which of those that are drawn a lifeline is, and where it stands
abbrev pub position_of : ℕ → Option (Option ℕ) → ℕ
position_of column (Some (Some place)) = place
position_of column _ = column

abbrev pub column_x : Layout → ℕ → ℕ
column_x layout column = lifeline_x layout.pitch (position_of column (slice_get layout.places.items column))

-- how far down an event stands
abbrev pub row_y : Layout → ℕ → ℕ
row_y layout row = unwrap_or (slice_get layout.tops.items row) layout.bottom

-- the place of an event on a lifeline
abbrev pub point_at : Layout → ℕ → ℕ → Point
point_at layout column row = record { x = column_x layout column; y = row_y layout row }

-- where a lifeline begins, below its name, and where it ends
abbrev pub lifeline_top : Layout → ℕ → Point
lifeline_top layout column = record { x = column_x layout column; y = 94 }

abbrev pub lifeline_end : Layout → ℕ → Point
lifeline_end layout column = record { x = column_x layout column; y = layout.bottom }

-- how large the picture is: so much more than the last of the lifelines that are drawn, and than
-- where they end
abbrev pub picture_width : Layout → ℕ
picture_width layout = capped (lifeline_x layout.pitch (layout.shown - 1) + 200)

abbrev pub picture_height : Layout → ℕ
picture_height layout = capped (layout.bottom + 22)

-- how far the next event is from one with so many lost messages below each other, less one
abbrev pub row_height : ℕ → ℕ
row_height depth = capped (capped (depth * 10) + 22)

-- which of its event's lost messages on its side a message is
abbrev pub slot_at : Layout → ℕ → ℕ
slot_at layout message = unwrap_or (slice_get layout.slots.items message) 0

-- the names of the lifelines stand once more above each fortieth event
abbrev pub names_again : ℕ → Bool
names_again row = nat_lt 0 row && nat_eq (row % 40) 0

-- and so between these two, the one above the other
abbrev pub names_between : ℕ → ℕ → Bool
names_between from to = nat_lt (from / 40) (to / 40)
