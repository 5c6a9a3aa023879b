use Rattle.timers.proofs.Looks.{seen_that_long}
use Rattle.timers.proofs.laws.beats_are_heard_before_an_expiry.Goals as goal

pub returns : goal.returns
returns c = seen_that_long
