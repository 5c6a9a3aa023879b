use Rattle.expiry.proofs.Holding.{always_held}
use Rattle.expiry.proofs.laws.others_than_down_are_held.Goals as goal

pub returns : goal.returns
returns g = always_held
