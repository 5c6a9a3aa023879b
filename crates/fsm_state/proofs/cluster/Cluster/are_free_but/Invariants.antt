use Rattle.std.proofs.Common.{◌≡◌, drop}
use Rattle.std.specs.List.{list_all}
use Rattle.fsm_state.specs.Inner.Alone.{is_name_free}
use Rattle.fsm_state.proofs.cluster.Cluster.are_free_but.Given as goal

abbrev pub invariant-loop-claim : goal.invariant-loop-claim
invariant-loop-claim l = list_all (is_name_free l.ids l.self.allocs) l.claims ≡ list_all (is_name_free l.ids l.self.allocs) (drop l.claim-index l.claims)
