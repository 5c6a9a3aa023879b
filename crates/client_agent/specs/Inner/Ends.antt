-- Ends of allocations.
use Rattle.std.specs.Prelude.{Bool}
use Rattle.rows.specs.declared.allocation.AllocId.{AllocId}
use Rattle.group_model.specs.Agents.{Ended}

abbrev pub ended_row : AllocId → Bool → Ended
ended_row id ok = record { id = id; ok = ok }
