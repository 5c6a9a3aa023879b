use Rattle.std.proofs.Common.{◌≡◌, drop}
use Rattle.fsm_state.specs.Inner.Steps.{left_steps}
use Rattle.fsm_state.proofs.cluster.Cluster.leave.Given as goal

abbrev pub invariant-loop-row : goal.invariant-loop-row
invariant-loop-row l = left_steps l.client (drop l.row-index l.row-items) l.self ≡ left_steps l.client l.row-items l.initial.self
