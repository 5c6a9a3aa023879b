-- What the items of the input ask of a server.
use Rattle.std.specs.Prelude.{ℕ, Bool, ◌==◌, ◌&&◌, nat_lt, List, length, drop, slice_index, codes, bytes_eq, Result, Ok, if◌then◌else◌}
use Rattle.rows.specs.Versions.{newest}
use Rattle.fields_model.specs.Format.{◌>>=◌, Format, ◌then◌, whole}
use Rattle.fields_model.specs.Fields.{index, term}
use Rattle.machine_model.specs.MachineSpec.{MachineSpec}
use Rattle.raft_model.specs.Steps.{Timeout, Beat, Propose, Compact}
use Rattle.raft_core.specs.Inputs.{Handed, Bytes, Own}

-- an item of the one byte T, B or C is an event of the server's own, and any other a frame
abbrev pub input_of : {C : Type 0} → List ℕ → Handed C
input_of item =
    if bytes_eq item (codes "T") then Own Timeout
    else if bytes_eq item (codes "B") then Own Beat
    else if bytes_eq item (codes "C") then Own Compact
    else Bytes item

-- an item that begins with P is a proposal, and one that begins with Q a question
abbrev pub begins_with : ℕ → List ℕ → Bool
begins_with letter item = nat_lt 0 (length item) && (slice_index item 0 == letter)

abbrev pub is_proposal : List ℕ → Bool
is_proposal item = begins_with 80 item

abbrev pub is_question : List ℕ → Bool
is_question item = begins_with 81 item

-- behind a Q stands a ticket: an index and a term, each in eight bytes
abbrev pub ticket : Format (ℕ × ℕ)
ticket = index then term

-- What an item asks, or the place at which the command of a proposal is at fault: behind a P stands
-- the whole text of a command, of the newest version.
abbrev pub asked : {S C : Type 0} → MachineSpec S C → List ℕ → Result (Handed C) ℕ
asked m item =
    if is_proposal item
    then (whole (m.commands newest) (drop 1 item) >>= λ command. Ok (Own (Propose command)))
    else Ok (input_of item)
