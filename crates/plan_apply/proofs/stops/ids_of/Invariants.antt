use Rattle.std.proofs.Common.{◌≡◌, ◌++◌, drop, map}
use Rattle.rows.specs.Keys.{alloc_id}
use Rattle.plan_apply.proofs.stops.ids_of.Given as goal

abbrev pub invariant-loop-row : goal.invariant-loop-row
invariant-loop-row l = l.ids ++ map alloc_id (drop l.row-index l.rows) ≡ map alloc_id l.rows
