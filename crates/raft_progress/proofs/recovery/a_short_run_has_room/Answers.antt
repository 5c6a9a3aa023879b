use Rattle.raft_progress.proofs.Room as room
use Rattle.raft_progress.proofs.recovery.a_short_run_has_room.Goals as goal

pub returns : goal.returns
returns g c = λ n events past w r two short. room.short_has_room g.M.Machine.spec n two events past w r short
