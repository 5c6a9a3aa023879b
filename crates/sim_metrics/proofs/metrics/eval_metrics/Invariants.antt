use Rattle.std.proofs.Common.{take}
use Rattle.std.specs.List.{AllZip}
use Rattle.group_model.specs.Scheduling.{WorkerPlan}
use Rattle.sim_metrics.specs.Metrics.{IsOfGroup}
use Rattle.sim_metrics.proofs.metrics.eval_metrics.Given as goal

abbrev pub invariant-loop-group : goal.invariant-loop-group
invariant-loop-group l =
    let made = l.plan-inside in
    let p : WorkerPlan = record { stops = made.stops; places = made.places; version = made.version; snapshot = made.snapshot; all_placed = made.all_placed } in
    AllZip (IsOfGroup l.state l.eval.job p) (take l.group-index l.group-items) l.all.items
