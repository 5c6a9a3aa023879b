use Rattle.spec.proofs.Visible.{states_safe}
use Rattle.spec.proofs.safe_states_follow.Goals as goal

pub returns : goal.returns
returns g = λ n nodes events past w r list one. states_safe n nodes events past w r list one
