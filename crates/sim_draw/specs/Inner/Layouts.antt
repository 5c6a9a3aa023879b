-- Where rows and lost messages stand: no two of them over each other.
use Rattle.std.specs.Prelude.{◌≡◌, ℕ, zero, suc, ◌+◌, ◌<◌, max, if◌then◌else◌, Some, List, length, get_or, take, slice_get}
use Rattle.sim_draw.specs.declared.layout.Fan.{Fan}
use Rattle.sim_draw.specs.declared.layout.Layout.{Layout}
use Rattle.sim_draw.specs.declared.record.Record.{Record}
use Rattle.sim_draw.specs.declared.record.Sending.{Sending}
use Rattle.sim_draw.specs.Inner.Positions.{capped, row_height, names_again}
use Rattle.sim_draw.specs.Inner.Fans.{fan_of, depth_of, no_fan, place_behind}

-- of each event the messages that it lost on each side
pub record AreFans (events : ℕ) (sendings : List Sending) (fans : List Fan) : Type 0 where
  pub each : length fans ≡ events
  pub counts : (row : ℕ) → row < events → get_or fans row no_fan ≡ fan_of row sendings

-- of each message of one of so many events its place among those that its event lost on its side
pub record AreSlots (events : ℕ) (sendings : List Sending) (slots : List ℕ) : Type 0 where
  pub each : length slots ≡ length sendings
  pub places : (message : ℕ) (sending : Sending) → slice_get sendings message ≡ Some sending → sending.row < events →
      slice_get slots message ≡ Some (place_behind (take message sendings) sending)

-- where a row begins, below the end of the one before it: the names of the lifelines may stand between
abbrev pub top_below : ℕ → ℕ → ℕ
top_below end row = if names_again row then capped (end + 26) else end

-- where a row ends: so far below its event as what it lost needs
abbrev pub row_end : ℕ → Fan → ℕ
row_end top fan = capped (top + row_height (depth_of fan))

-- where the next row may begin, below so many
abbrev pub end_before : List Fan → List ℕ → ℕ → ℕ
end_before fans tops zero = 118
end_before fans tops (suc row) = row_end (get_or tops row 0) (get_or fans row no_fan)

-- The events stand below each other: each where the row before it ends, or below the names.
pub record RowsFollow (fans : List Fan) (tops : List ℕ) (end : ℕ) : Type 0 where
  pub each : length tops ≡ length fans
  pub begin : (row : ℕ) → row < length fans → get_or tops row 0 ≡ top_below (end_before fans tops row) row
  pub ends : end ≡ end_before fans tops (length fans)

-- the rows of what is noted, with room for all that is lost, and the lifelines end below the last
pub record RowsHold (run : Record) (layout : Layout) : Type 0 where
  pub fans : List Fan
  pub losses : AreFans (length run.steps.items) run.sendings.items fans
  pub end : ℕ
  pub rows : RowsFollow fans layout.tops.items end
  pub bottom : layout.bottom ≡ max end 140
