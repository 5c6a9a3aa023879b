use Rattle.std.proofs.Common.{◌≡◌, drop}
use Rattle.fsm_model.specs.Plans.{are_free}
use Rattle.fsm_state.proofs.admission.whole.are_free.Given as goal

abbrev pub invariant-loop-claim : goal.invariant-loop-claim
invariant-loop-claim l = are_free l.claims l.others ≡ are_free (drop l.claim-index l.claims) l.others
