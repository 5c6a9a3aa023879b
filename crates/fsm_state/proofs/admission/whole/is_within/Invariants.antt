use Rattle.std.proofs.Common.{◌≡◌, drop}
use Rattle.fsm_state.specs.Inner.Claimed.{fits_steps}
use Rattle.fsm_state.proofs.admission.whole.is_within.Given as goal

abbrev pub invariant-loop-claim : goal.invariant-loop-claim
invariant-loop-claim l = fits_steps l.node.number l.claims l.node.size ≡ fits_steps l.node.number (drop l.claim-index l.claims) l.left
