-- What is kept: blocked evaluations in rising id, and the room of classes in rising class; and what
-- that is.
use Rattle.std.specs.Prelude.{ℕ, Bool, bytes_eq, Option, Some, None, List}
use Rattle.std.specs.List.{list_any}
use Rattle.rows.specs.declared.node.Node.{Node}
use Rattle.rows.specs.Keys.{name_cmp}
use Rattle.fsm_tables.specs.Rows.{row_of}
use Rattle.group_model.specs.Blocked.{BlockedEval, BlockedEvals, is_due_by, room_over}
use Rattle.blocked.specs.declared.rooms.ClassRoom.{ClassRoom}

abbrev pub room_class : ClassRoom → List ℕ
room_class r = r.class

abbrev pub index_or_zero : Option ClassRoom → ℕ
index_or_zero None = 0
index_or_zero (Some r) = r.room

-- the greatest index at which a node of the class got room, or 0
abbrev pub room_in : List ClassRoom → List ℕ → ℕ
room_in rooms class = index_or_zero (row_of name_cmp room_class class rooms)

pub record BlockedRows : Type 0 where
  pub evals : List BlockedEval
  pub rooms : List ClassRoom

abbrev pub blocked_of : BlockedRows → BlockedEvals
blocked_of b = record { evals = b.evals; room = room_in b.rooms }

-- the same evaluations, with the room of these nodes
abbrev pub with_room_of : List Node → BlockedEvals → BlockedEvals
with_room_of nodes b = record b { room = room_over nodes }

-- an evaluation of the job
abbrev pub is_of_job : List ℕ → BlockedEval → Bool
is_of_job job b = bytes_eq b.row.job job

-- some evaluation is due
abbrev pub some_due : BlockedEvals → Bool
some_due b = list_any (is_due_by b.room) b.evals
