use Rattle.blocked.proofs.OfState.{always_of_state}
use Rattle.blocked.proofs.laws.blocked_is_of_the_state.Goals as goal

pub returns : goal.returns
returns g = always_of_state
