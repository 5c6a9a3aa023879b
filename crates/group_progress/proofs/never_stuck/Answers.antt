use Rattle.group_progress.proofs.Opening.{settles}
use Rattle.group_progress.proofs.never_stuck.Goals as goal

pub returns : goal.returns
returns g n = settles n
