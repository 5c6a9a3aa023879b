use Rattle.std.proofs.Common.{◌≡◌, ◌++◌, drop}
use Rattle.fsm_state.specs.Inner.Alone.{ended_by}
use Rattle.fsm_state.proofs.cluster.Cluster.ended_by.Given as goal

abbrev pub invariant-loop-place : goal.invariant-loop-place
invariant-loop-place l = l.claims ++ ended_by (drop l.place l.ids) l.self.allocs ≡ ended_by l.ids l.self.allocs
