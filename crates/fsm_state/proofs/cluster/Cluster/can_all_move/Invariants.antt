use Rattle.std.proofs.Common.{◌≡◌, drop}
use Rattle.std.specs.List.{list_all}
use Rattle.fsm_model.specs.Admission.{can_move}
use Rattle.fsm_state.proofs.cluster.Cluster.can_all_move.Given as goal

abbrev pub invariant-loop-id : goal.invariant-loop-id
invariant-loop-id l = list_all (can_move l.self) l.ids ≡ list_all (can_move l.self) (drop l.id-index l.ids)
