use Rattle.std.proofs.Common.{◌≡◌, drop}
use Rattle.std.specs.List.{list_any}
use Rattle.fsm_model.specs.Words.{same_alloc}
use Rattle.fsm_state.proofs.cluster.is_among.Given as goal

abbrev pub invariant-loop-other : goal.invariant-loop-other
invariant-loop-other l = list_any (same_alloc l.id) l.ids ≡ list_any (same_alloc l.id) (drop l.other-index l.ids)
