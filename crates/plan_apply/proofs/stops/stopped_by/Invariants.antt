use Rattle.std.proofs.Common.{◌≡◌, [], drop, map}
use Rattle.rows.specs.Keys.{alloc_id}
use Rattle.plan_apply.specs.Inner.Stops.{AreEnded}
use Rattle.plan_apply.proofs.Stopping.{with_stops}
use Rattle.plan_apply.proofs.stops.stopped_by.Given as goal

abbrev pub invariant-loop-id : goal.invariant-loop-id
invariant-loop-id l = record {
  ids : with_stops l.state l.plan.job (map alloc_id l.rows) (drop l.id-index l.plan.stops) ≡ with_stops l.state l.plan.job [] l.plan.stops;
  ended : AreEnded l.state l.rows;
}
