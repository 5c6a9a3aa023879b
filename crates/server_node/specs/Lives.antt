-- Servers of a group as processes.
use Rattle.std.specs.Prelude.{◌≡◌, ◌+◌, ℕ, Option, List, ◌++◌, codes, decimal}
use Rattle.rows.specs.declared.command.Command.{Command}
use Rattle.fsm_model.specs.ClusterMachine.{cluster_spec}
use Rattle.fsm_model.specs.Words.{State}
use Rattle.raft_model.specs.Rafts.{Raft}
use Rattle.raft_core.specs.RaftView.{RaftView}
use Rattle.raft_core.specs.Steps.{IsGroupMember, Stores}
use Rattle.raft_snapshot.specs.Stored.{Stored}
use Rattle.group_model.specs.Servers.{Server}
use Rattle.server.specs.ServerViews.{RefinesServer, restarted_server}
use Rattle.process_lives.specs.Groups.{group_server_code}
use Rattle.process_lives.specs.Lives.{Code}
use Rattle.raft_records.specs.Records.{raft_replay}
use Rattle.raft_records.specs.Starts.{IsStored}
use Rattle.server_node.specs.Nodes.{NodeView}
use Rattle.server_node.specs.Turns.{Turn, stored_by}

-- the first line of the journal of server `me` of so many
abbrev pub header_text : ℕ → ℕ → List ℕ
header_text size me = codes "minutebarn journal 1 server_node " ++ (decimal (me + 1) ++ (codes " of " ++ (decimal size ++ codes "\n")))

-- what it begins with: the server of this number, of what its store has
pub record BeginsWith (size me : ℕ) (store : Option (List ℕ)) (v : NodeView) : Type 0 where
  pub member : IsGroupMember size me
  pub place : (v.server.raft.me ≡ me) × (v.server.raft.size ≡ size)
  pub stored : IsStored cluster_spec (header_text size me) store (stored_by v)
  pub server : (s : Raft Command) → Stores cluster_spec (stored_by v) s → RefinesServer v.server (restarted_server s)

-- its part of the log, and the servers of the definitions that it may be
abbrev pub log_of : NodeView → RaftView State Command
log_of v = v.server.raft

abbrev pub Stands : NodeView → Server → Type 0
Stands v s = RefinesServer v.server s

-- what such a process runs: the same words as in the contract of `serve`
abbrev pub node_code : ℕ → Code ℕ NodeView (Stored State Command)
node_code size = group_server_code log_of Stands (raft_replay cluster_spec) Turn (BeginsWith size) (header_text size)
