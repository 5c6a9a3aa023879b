use Rattle.std.proofs.Common.{◌≡◌, drop}
use Rattle.std.specs.List.{list_all}
use Rattle.fsm_model.specs.Admission.{is_live_of}
use Rattle.fsm_state.proofs.cluster.Cluster.are_live_of.Given as goal

abbrev pub invariant-loop-id : goal.invariant-loop-id
invariant-loop-id l = list_all (is_live_of l.job l.self) l.ids ≡ list_all (is_live_of l.job l.self) (drop l.id-index l.ids)
