use Rattle.fsm_state.specs.Inner.Steps.{touched_at}
use Rattle.fsm_state.proofs.Touching.{Kept}
use Rattle.fsm_state.proofs.cluster.Cluster.create_each.Given as goal

abbrev pub invariant-loop-name : goal.invariant-loop-name
invariant-loop-name l = Kept l.entry (touched_at l.fn.names.keys l.initial.self).evals l.initial.self l.self l.slot l.name-iterator
