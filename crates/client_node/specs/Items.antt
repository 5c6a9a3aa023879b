-- The items of the input of a client's process.
use Rattle.std.specs.Prelude.{◌≡◌, ◌==◌, ◌&&◌, ◌||◌, ℕ, Bool, true, not, nat_lt, List, length, drop, slice_index, Ok}
use Rattle.fields_model.specs.Format.{whole}
use Rattle.fields_model.specs.Fields.{u32}
use Rattle.rows.specs.declared.allocation.AllocId.{AllocId}
use Rattle.group_model.specs.Agents.{End}
use Rattle.group_model.specs.Worlds.{AtClient}
use Rattle.event_texts.specs.EventLines.{IsEventLine}

abbrev pub begins_with : ℕ → List ℕ → Bool
begins_with letter item = nat_lt 0 (length item) && (slice_index item 0 == letter)

-- an item that begins with neither K nor E is a frame
abbrev pub is_frame : List ℕ → Bool
is_frame item = not (begins_with 75 item || begins_with 69 item)

-- K, and in four bytes how many milliseconds passed
pub record IsTime (item : List ℕ) (ms : ℕ) : Type 0 where
  pub letter : begins_with 75 item ≡ true
  pub read : whole u32 (drop 1 item) ≡ Ok ms

-- E, and a scenario's line by which an allocation of this client ends
pub record IsEnd (me : ℕ) (item : List ℕ) (id : AllocId) (well : Bool) : Type 0 where
  pub letter : begins_with 69 item ≡ true
  pub line : IsEventLine (AtClient me (End id well)) (drop 1 item)
