use Rattle.server.specs.ServerViews.{RefinesServer}
use Rattle.world.specs.Inner.Room.{ServerHasRoom}
use Rattle.world.proofs.Rooms.{FirstHave}
use Rattle.world.proofs.room.servers_have_room.Given as goal

abbrev pub invariant-loop-server : goal.invariant-loop-server
invariant-loop-server l = FirstHave RefinesServer ServerHasRoom l.servers l.server-index
