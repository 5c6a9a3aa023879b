use Rattle.group_progress.proofs.Opening.{recovers}
use Rattle.group_progress.proofs.each_group_recovers.Goals as goal

pub returns : goal.returns
returns g n = recovers n
