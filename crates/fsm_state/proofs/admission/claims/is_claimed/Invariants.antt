use Rattle.std.proofs.Common.{◌≡◌, drop}
use Rattle.std.specs.List.{list_any}
use Rattle.fsm_model.specs.Safe.{same_name}
use Rattle.fsm_state.proofs.admission.claims.is_claimed.Given as goal

abbrev pub invariant-loop-other : goal.invariant-loop-other
invariant-loop-other l = list_any (same_name l.claim) l.claims ≡ list_any (same_name l.claim) (drop l.other-index l.claims)
