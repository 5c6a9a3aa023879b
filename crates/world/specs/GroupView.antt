-- What a contract sees of a group, which world of the definitions it represents, and that a run
-- leads there.
use Rattle.std.specs.Prelude.{◌≡◌, ℕ, zero, suc, Option, Some, None, List, [], ◌∷◌, length, map, slice_get}
use Rattle.std.specs.List.{AllZip}
use Rattle.rows.specs.declared.actor.Actor.{Actor}
use Rattle.rows.specs.declared.node.NodeSpec.{NodeSpec}
use Rattle.wire.specs.Frames.{Frame}
use Rattle.raft_safety.specs.Claims.{IsGreatestCommit}
use Rattle.fsm_model.specs.ClusterMachine.{cluster_spec}
use Rattle.group_model.specs.Agents.{Agent}
use Rattle.group_model.specs.Worlds.{World, Event, raft_of}
use Rattle.group_safety.specs.Claims.{logs}
use Rattle.group_safety.specs.Limits.{NodesFit, LimitedRun}
use Rattle.group_frames.specs.GroupFrames.{CarriesGroup}
use Rattle.client_agent.specs.AgentView.{AgentView}
use Rattle.server.specs.declared.server.Outbox.{Outbox}
use Rattle.server.specs.ServerViews.{ServerView, RefinesServer}
use Rattle.rows.specs.GroupSizes.{IsGroup}

-- the servers, the clients, all frames that were ever sent with what came for workers and was not
-- fetched yet, all events that happened, and how many entries were ever applied
pub record GroupView : Type 0 where
  pub servers : List ServerView
  pub clients : List AgentView
  pub outbox : Outbox
  pub trace : List Event
  pub chain : ℕ

abbrev pub client_in : AgentView → Agent
client_in a = a.client

abbrev pub node_in : AgentView → NodeSpec
node_in a = a.client.node

-- the nodes of its clients
abbrev pub nodes_of : GroupView → List NodeSpec
nodes_of view = map node_in view.clients

-- these nodes, numbered from k on in their order, whatever number they had
abbrev pub renumbered : ℕ → List NodeSpec → List NodeSpec
renumbered k [] = []
renumbered k (node ∷ nodes) = record node { number = k } ∷ renumbered (suc k) nodes

-- its servers and clients are those of the world, and its frames carry the messages there, one for
-- one
pub record RefinesGroup (view : GroupView) (w : World) : Type 0 where
  pub servers : AllZip RefinesServer view.servers w.servers
  pub clients : map client_in view.clients ≡ w.clients
  pub sent : AllZip (CarriesGroup cluster_spec) view.outbox.frames w.sent

-- The trace is that of a run through the worlds `past` to w, which the value represents, its inputs
-- are within their limits, and `chain` is the greatest number of entries that any server had
-- committed at some moment of it.
pub record GroupRunsTo (view : GroupView) (past : List World) (w : World) : Type 0 where
  pub run : LimitedRun (length view.servers) (nodes_of view) view.trace past w
  pub refines : RefinesGroup view w
  pub chain : IsGreatestCommit (logs past) (raft_of w) view.chain

-- each server knows its number and the size of the group
abbrev pub ServersKnowNumbers : GroupView → Type 0
ServersKnowNumbers view = (i : ℕ) (s : ServerView) → slice_get view.servers i ≡ Some s → (s.raft.me ≡ i) × (s.raft.size ≡ length view.servers)

-- so does each client, which is numbered as its node, from 1
abbrev pub ClientsKnowNumbers : GroupView → Type 0
ClientsKnowNumbers view = (i : ℕ) (a : AgentView) → slice_get view.clients i ≡ Some a → (a.client.node.number ≡ suc i) × (a.size ≡ length view.servers)

-- what every group keeps
pub record GroupInvariant (view : GroupView) : Type 0 where
  pub past : List World
  pub world : World
  pub runs : GroupRunsTo view past world
  pub servers : ServersKnowNumbers view
  pub clients : ClientsKnowNumbers view
  pub nodes : NodesFit (nodes_of view)
  pub size : IsGroup (length view.servers)

-- the frame at this place of those that were sent is for this actor
pub record IsSentTo (frames : List Frame) (place : ℕ) (to : Actor) : Type 0 where
  pub frame : Frame
  pub at : slice_get frames place ≡ Some frame
  pub is_to : frame.to ≡ to

-- client c of the value; none where there is no such
abbrev pub client_view : List AgentView → ℕ → Option AgentView
client_view clients zero = None
client_view clients (suc k) = slice_get clients k
