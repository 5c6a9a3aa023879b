use Rattle.std.proofs.Common.{◌≡◌, drop, map}
use Rattle.std.specs.List.{list_any}
use Rattle.rows.specs.Keys.{alloc_id}
use Rattle.fsm_model.specs.Words.{same_alloc}
use Rattle.plan_apply.proofs.stops.has_row.Given as goal

abbrev pub invariant-loop-row : goal.invariant-loop-row
invariant-loop-row l = list_any (same_alloc l.id) (map alloc_id l.rows) ≡ list_any (same_alloc l.id) (map alloc_id (drop l.row-index l.rows))
