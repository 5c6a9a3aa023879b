-- Blocked evaluations: how urgent each is, and whether it becomes due.
use Rattle.std.specs.Prelude.{ℕ, Bool, not, ◌&&◌, List}
use Rattle.fsm_tables.specs.declared.urgency.Urgency.{Urgency}
use Rattle.fsm_tables.specs.Urgencies.{urgency}
use Rattle.group_model.specs.Blocked.{BlockedEval, is_due_by, room_with}

abbrev pub urgency_of : BlockedEval → Urgency
urgency_of b = urgency b.row.priority b.row.id

-- it waits, and is due once a node of the class gets room at this index
abbrev pub becomes_due_by : List ℕ → ℕ → (List ℕ → ℕ) → BlockedEval → Bool
becomes_due_by class index room b = not (is_due_by room b) && is_due_by (room_with class index room) b
