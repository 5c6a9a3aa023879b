use Rattle.std.proofs.Common.{◌≡◌, drop}
use Rattle.fsm_model.specs.Safe.{are_distinct}
use Rattle.fsm_state.proofs.admission.claims.are_distinct.Given as goal

abbrev pub invariant-loop-place : goal.invariant-loop-place
invariant-loop-place l = are_distinct l.claims ≡ are_distinct (drop l.place l.claims)
