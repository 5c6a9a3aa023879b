use Rattle.raft_core.specs.Steps.{RefinesRaft}
use Rattle.world.specs.Inner.Room.{RaftHasRoom}
use Rattle.world.proofs.Rooms.{FirstHave}
use Rattle.world.proofs.room.rafts_have_room.Given as goal

abbrev pub invariant-loop-raft : goal.invariant-loop-raft
invariant-loop-raft g l = FirstHave (RefinesRaft g.M.Machine.spec) RaftHasRoom l.rafts l.raft-index
