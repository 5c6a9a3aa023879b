-- What a contract sees of a server's process.
use Rattle.std.specs.Prelude.{List}
use Rattle.server.specs.ServerViews.{ServerView}
use Rattle.workers.specs.PlanCounts.{WorkersView}
use Rattle.timers.specs.ServerTimes.{ServerTimes}
use Rattle.server_node.specs.declared.asked.Asked.{Asked}

-- the server, what waits for its workers, its timers, and the tickets that were told and of which
-- it was not told yet what became of them
pub record NodeView : Type 0 where
  pub server : ServerView
  pub workers : WorkersView
  pub timers : ServerTimes
  pub asked : List Asked
