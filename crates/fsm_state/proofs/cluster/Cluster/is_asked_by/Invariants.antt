use Rattle.std.proofs.Common.{◌≡◌, drop}
use Rattle.std.specs.List.{list_any}
use Rattle.fsm_model.specs.Admission.{is_asked}
use Rattle.fsm_state.proofs.cluster.Cluster.is_asked_by.Given as goal

abbrev pub invariant-loop-group : goal.invariant-loop-group
invariant-loop-group l = list_any (is_asked l.self l.place) l.groups ≡ list_any (is_asked l.self l.place) (drop l.group-index l.groups)
