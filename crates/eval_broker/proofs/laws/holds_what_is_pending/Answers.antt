use Rattle.eval_broker.proofs.Following.{holds_after_calls}
use Rattle.eval_broker.proofs.laws.holds_what_is_pending.Goals as goal

pub returns : goal.returns
returns g = holds_after_calls
