use Rattle.std.proofs.Common.{Result, Ok, Err, IfOk}
use Rattle.rows.specs.declared.command.Command.{Command}
use Rattle.rows.specs.declared.refusal.NoMemory.{NoMemory}
use Rattle.raft_model.specs.Rafts.{Raft as AnyRaft}
use Rattle.raft_snapshot.specs.Stored.{Stored}
use Rattle.raft_core.specs.Steps.{RefinesRaft, Stores}
use Rattle.fsm_model.specs.Words.{State}
use Rattle.fsm_model.specs.ClusterMachine.{cluster_spec}
use Rattle.server.specs.ServerViews.{ServerView, RefinesServer}
use Rattle.group_model.specs.Servers.{Server}
use Rattle.server.proofs.server.Server.stable.Goals as goal

-- what is stored of each server of the log is stored of each server of the group
each_stored : (view : ServerView) (r : Result (Stored State Command) NoMemory)
    → IfOk r (λ copy. (s : AnyRaft Command) → RefinesRaft cluster_spec view.raft s → Stores cluster_spec copy s)
    → IfOk r (λ copy. (s : Server) → RefinesServer view s → Stores cluster_spec copy s.raft)
each_stored view (Ok copy) stores = λ s is. stores s.raft is.raft
each_stored view (Err cause) stores = tt

pub returns-clause-stored : goal.returns-clause-stored
returns-clause-stored c =
    let i = c.self.inside in
    rw (← c.self.view_is) (each_stored (record { raft = i.raft; desk = i.desk }) c.stable.result c.stable.ensures.stored)
