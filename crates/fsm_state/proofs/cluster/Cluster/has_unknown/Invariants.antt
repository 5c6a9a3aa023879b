use Rattle.std.proofs.Common.{◌≡◌, drop}
use Rattle.std.specs.List.{list_any}
use Rattle.fsm_model.specs.Words.{no_alloc}
use Rattle.fsm_state.proofs.cluster.Cluster.has_unknown.Given as goal

abbrev pub invariant-loop-id : goal.invariant-loop-id
invariant-loop-id l = list_any (λ id. no_alloc id l.self) l.ids ≡ list_any (λ id. no_alloc id l.self) (drop l.id-index l.ids)
