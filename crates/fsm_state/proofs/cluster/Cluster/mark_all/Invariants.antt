use Rattle.std.proofs.Common.{◌≡◌, drop}
use Rattle.fsm_state.specs.Inner.Steps.{marked_all}
use Rattle.fsm_state.proofs.cluster.Cluster.mark_all.Given as goal

abbrev pub invariant-loop-id : goal.invariant-loop-id
invariant-loop-id l = marked_all (drop l.id-index l.ids) l.self ≡ marked_all l.ids l.initial.self
