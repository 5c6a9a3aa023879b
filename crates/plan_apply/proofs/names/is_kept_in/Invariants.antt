use Rattle.std.proofs.Common.{◌≡◌, map}
use Rattle.std.specs.List.{list_any}
use Rattle.rows.specs.Keys.{alloc_id}
use Rattle.fsm_tables.specs.Runs.{rows_left}
use Rattle.plan_apply.specs.Inner.Names.{keeps_name}
use Rattle.plan_apply.proofs.names.is_kept_in.Given as goal

abbrev pub invariant-loop-row : goal.invariant-loop-row
invariant-loop-row l = list_any (keeps_name l.name (map alloc_id l.stopped)) l.rows ≡ list_any (keeps_name l.name (map alloc_id l.stopped)) (rows_left l.row-iterator)
