use Rattle.std.proofs.Common.{◌≡◌, drop}
use Rattle.std.specs.List.{list_all}
use Rattle.fsm_model.specs.Safe.{is_placed}
use Rattle.fsm_state.proofs.cluster.Cluster.are_placed.Given as goal

abbrev pub invariant-loop-claim : goal.invariant-loop-claim
invariant-loop-claim l = list_all (is_placed l.self.nodes) l.claims ≡ list_all (is_placed l.self.nodes) (drop l.claim-index l.claims)
