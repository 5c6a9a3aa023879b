use Rattle.std.proofs.Common.{◌≡◌, ◌+◌, length}
use Rattle.fsm_state.specs.Inner.Steps.{jobs_at}
use Rattle.fsm_state.proofs.cluster.Cluster.count_each.Given as goal

abbrev pub invariant-loop-name : goal.invariant-loop-name
invariant-loop-name l = l.count + length (jobs_at l.self.jobs l.name-iterator) ≡ length (jobs_at l.self.jobs l.fn.names.keys)
