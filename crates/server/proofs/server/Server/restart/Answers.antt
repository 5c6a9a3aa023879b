use Rattle.std.proofs.Common.{ap}
use Rattle.server.specs.ServerViews.{group_desk}
use Rattle.server.proofs.server.Server.restart.Goals as goal

pub returns-clause-server : goal.returns-clause-server
returns-clause-server c = λ s stored. record {
  raft = c.in_ok-raft.ensures.server s stored;
  desk = ap group_desk c.closed.ensures;
  led = rw c.closed.ensures tt;
}
