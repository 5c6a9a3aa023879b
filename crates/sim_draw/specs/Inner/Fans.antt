-- The lost messages of one event, on each side of its actor.
use Rattle.std.specs.Prelude.{ℕ, ◌+◌, ◌-◌, max, Bool, not, ◌&&◌, nat_eq, nat_lt, if◌then◌else◌, Option, Some, None, List, slice_set}
use Rattle.std.specs.List.{count_by}
use Rattle.sim_draw.specs.declared.layout.Fan.{Fan}
use Rattle.sim_draw.specs.declared.layout.Side.{Side}
use Rattle.sim_draw.specs.declared.layout.Side.TheVariants.{Left, Right}
use Rattle.sim_draw.specs.declared.record.Sending.{Sending}
use Rattle.sim_draw.specs.Inner.Positions.{capped, side_towards}
use Rattle.sim_draw.specs.Inner.Records.{is_lost}

-- on which side of its actor's lifeline a message leaves
abbrev pub leaves_on : Side → Sending → Bool
leaves_on Left sending = nat_lt sending.to sending.from
leaves_on Right sending = not (nat_lt sending.to sending.from)

-- a message of the event in this row that never came, on this side
abbrev pub is_lost_on : ℕ → Side → Sending → Bool
is_lost_on row side sending = is_lost sending && (nat_eq sending.row row && leaves_on side sending)

abbrev pub lost_on : ℕ → Side → List Sending → ℕ
lost_on row side sendings = count_by (is_lost_on row side) sendings

-- how many of the event in this row were lost on each side
abbrev pub fan_of : ℕ → List Sending → Fan
fan_of row sendings = record { left = lost_on row Left sendings; right = lost_on row Right sendings }

-- which of its event's lost messages on its side a message is, from 0, that is sent behind these
abbrev pub place_behind : List Sending → Sending → ℕ
place_behind before sending =
    if sending.came then 0 else lost_on sending.row (side_towards sending.from sending.to) before

-- how many stand below each other, less one: on the side on which more were lost
abbrev pub depth_of : Fan → ℕ
depth_of fan = max fan.left fan.right - 1

-- none of them, so far
abbrev pub no_fan : Fan
no_fan = record { left = 0; right = 0 }

abbrev pub count_on : Side → Fan → ℕ
count_on Left fan = fan.left
count_on Right fan = fan.right

abbrev pub one_more_on : Side → Fan → Fan
one_more_on Left fan = record fan { left = capped (fan.left + 1) }
one_more_on Right fan = record fan { right = capped (fan.right + 1) }

-- which of those on its side a message is, from 0; one that came is none of them
abbrev pub place_in : Fan → Sending → ℕ
place_in fan sending =
    if sending.came then 0 else count_on (side_towards sending.from sending.to) fan

abbrev pub fan_behind : Fan → Sending → Fan
fan_behind fan sending =
    if sending.came then fan else one_more_on (side_towards sending.from sending.to) fan

-- the same, where each event has its own
abbrev pub place_among : Option Fan → Sending → ℕ
place_among None sending = 0
place_among (Some fan) sending = place_in fan sending

abbrev pub fans_behind : List Fan → Sending → Option Fan → List Fan
fans_behind fans sending None = fans
fans_behind fans sending (Some fan) = slice_set fans sending.row (fan_behind fan sending)
