use Rattle.std.proofs.Common.{◌≡◌, drop}
use Rattle.fsm_state.specs.Inner.Steps.{stopped_all}
use Rattle.fsm_state.proofs.cluster.Cluster.stop_all.Given as goal

abbrev pub invariant-loop-id : goal.invariant-loop-id
invariant-loop-id l = stopped_all (drop l.id-index l.ids) l.self ≡ stopped_all l.ids l.initial.self
