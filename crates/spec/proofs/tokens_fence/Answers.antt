use Rattle.spec.proofs.Fencing.{fenced, one_holder}
use Rattle.spec.proofs.tokens_fence.Goals as goal

pub returns : goal.returns
returns g = record { fences = fenced; one_holder = one_holder }
