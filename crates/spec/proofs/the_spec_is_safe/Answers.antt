use Rattle.spec.proofs.Safety.{safe, nothing_lost, stays_up}
use Rattle.spec.proofs.the_spec_is_safe.Goals as goal

pub returns : goal.returns
returns g = record { safe = safe; stays = nothing_lost; grows = stays_up }
