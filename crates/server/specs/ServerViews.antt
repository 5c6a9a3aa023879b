-- What a contract sees of a server of the group, which server of the definitions it is, and what
-- its type keeps.
use Rattle.std.specs.Prelude.{◌≡◌, true, Option, None, option_map, IfSome}
use Rattle.rows.specs.declared.command.Command.{Command}
use Rattle.raft_model.specs.Rafts.{Raft, is_leader, crashed, restarted}
use Rattle.raft_core.specs.RaftView.{RaftView, SameRaft}
use Rattle.raft_core.specs.Steps.{RefinesRaft}
use Rattle.fsm_model.specs.Words.{State}
use Rattle.fsm_model.specs.ClusterMachine.{cluster_spec}
use Rattle.group_model.specs.Desks.{Desk, applied_state}
use Rattle.group_model.specs.Servers.{Server}
use Rattle.leader.specs.OpenDesks.{OpenDesk}
use Rattle.leader.specs.Staying.{IsOver}

-- its part of the log, and the desk, none where that is closed
pub record ServerView : Type 0 where
  pub raft : RaftView State Command
  pub desk : Option OpenDesk

-- the group's desk of one that is kept
abbrev pub group_desk : Option OpenDesk → Option Desk
group_desk d = option_map (λ (o : OpenDesk). o.desk) d

-- An open desk is the leader's, of its term, and of the state that it has applied.
pub record IsOfLeader (s : Raft Command) (o : OpenDesk) : Type 0 where
  pub leads : is_leader s.mode ≡ true
  pub term : o.term ≡ s.term
  pub over : IsOver (applied_state s) o

-- which server of the definitions a value is
pub record RefinesServer (view : ServerView) (s : Server) : Type 0 where
  pub raft : RefinesRaft cluster_spec view.raft s.raft
  pub desk : group_desk view.desk ≡ s.desk
  pub led : IfSome view.desk (IsOfLeader s.raft)

-- two values that are one server; one may hold the machine after the whole log, and the other not
pub record SameServer (old new : ServerView) : Type 0 where
  pub raft : SameRaft old.raft new.raft
  pub desk : new.desk ≡ old.desk

-- a server that starts with what this one stores
abbrev pub restarted_server : Raft Command → Server
restarted_server s = record { raft = restarted s; desk = None }

-- a server that lost what it does not store
abbrev pub crashed_server : Server → Server
crashed_server s = record { raft = crashed s.raft; desk = None }
