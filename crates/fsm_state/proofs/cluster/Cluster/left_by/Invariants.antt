use Rattle.std.proofs.Common.{◌≡◌, ◌+◌, ◌++◌, map, length}
use Rattle.fsm_tables.specs.Runs.{rows_left}
use Rattle.fsm_model.specs.Effect.{stop}
use Rattle.fsm_model.specs.Plans.{left}
use Rattle.fsm_state.proofs.cluster.Cluster.left_by.Given as goal

abbrev pub invariant-loop-row : goal.invariant-loop-row
invariant-loop-row l = l.claims ++ left (l.self.count + 1) 0 (length l.plan.places) (map (stop l.plan.stops) (rows_left l.row-iterator)) ≡ left (l.self.count + 1) 0 (length l.plan.places) (map (stop l.plan.stops) l.self.allocs)
