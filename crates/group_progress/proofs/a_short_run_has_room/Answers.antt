use Rattle.group_progress.proofs.ShortRuns.{group_has_room}
use Rattle.group_progress.proofs.a_short_run_has_room.Goals as goal

pub returns : goal.returns
returns g n = group_has_room n
