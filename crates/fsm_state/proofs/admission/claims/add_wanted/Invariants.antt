use Rattle.std.proofs.Common.{◌≡◌, ◌++◌, drop, map}
use Rattle.fsm_model.specs.Plans.{place_claim}
use Rattle.fsm_state.proofs.admission.claims.add_wanted.Given as goal

abbrev pub invariant-loop-place : goal.invariant-loop-place
invariant-loop-place l = l.claims ++ map (place_claim l.plan) (drop l.place-index l.plan.places) ≡ l.initial.claims ++ map (place_claim l.plan) l.plan.places
