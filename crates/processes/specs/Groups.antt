-- The group's servers and clients, as actors that are processes.
use Rattle.std.specs.Prelude.{◌≡◌, ⊤, ℕ, ◌<◌, Option, Some, None, Ok, List, map, length, slice_get}
use Rattle.rows.specs.declared.node.NodeSpec.{NodeSpec}
use Rattle.rows.specs.declared.allocation.AllocId.{AllocId}
use Rattle.rows.specs.declared.command.Command.{Command}
use Rattle.raft_model.specs.Messages.{Message}
use Rattle.group_model.specs.Messages.{GroupMessage, OfLog, Service, ServiceMessage, BetweenServers}
use Rattle.group_model.specs.Messages.{ToServer, ToClient, ClientResponse}
use Rattle.group_model.specs.Inputs as inputs
use Rattle.group_model.specs.Servers as servers
use Rattle.group_model.specs.Servers.{Server}
use Rattle.group_model.specs.Agents as agents
use Rattle.group_model.specs.Agents.{Agent, new_life}
use Rattle.group_model.specs.Worlds.{World, Event, Run, agents_from, client_at, event_at}
use Rattle.group_model.specs.Worlds.{log_request, LogEventFits}
use Rattle.processes.specs.Processes.{Actors}
use Rattle.processes.specs.Logs.{Persistent, persistent_of, nothing_persistent, started, stopped}
use Rattle.processes.specs.Claims.{Abstraction, OccursIn}

-- servers count from 0, clients from 1
pub data Who : Type 0 where
  ServerOf : (place : ℕ) → Who
  ClientOf : (number : ℕ) → Who

pub data GroupActor : Type 0 where
  GroupServer : (server : Server) → GroupActor
  GroupClient : (client : Agent) → GroupActor

-- A server stores its part of the log; a client the ids that it ever started, and its node is told
-- to it again.
pub data GroupStore : Type 0 where
  OfServer : (stored : Persistent Command) → GroupStore
  OfClient : (node : NodeSpec) (ids : List AllocId) → GroupStore

abbrev pub store_of : GroupActor → GroupStore
store_of (GroupServer s) = OfServer (persistent_of s.raft)
store_of (GroupClient x) = OfClient x.node x.started

abbrev pub begun_by : GroupStore → GroupActor
begun_by (OfServer p) = GroupServer (record { raft = started p; desk = None })
begun_by (OfClient node ids) =
    GroupClient (record { node = node; started = ids; life = Some new_life })

-- the same, not yet started
abbrev pub stopped_by : GroupStore → GroupActor
stopped_by (OfServer p) = GroupServer (record { raft = stopped p; desk = None })
stopped_by (OfClient node ids) =
    GroupClient (record { node = node; started = ids; life = None })

abbrev pub stored_at_first : Option Agent → GroupStore
stored_at_first None = OfServer nothing_persistent
stored_at_first (Some x) = OfClient x.node x.started

-- what an item is: a message that came, or an input of its own
pub data Item : Type 0 where
  Comes : (message : GroupMessage) → Item
  ServerInput : (input : inputs.Input) → Item
  ClientInput : (input : agents.Input) → Item

-- an input of a server's own; it dies and starts otherwise
abbrev pub IsServersOwn : inputs.Input → Type 0
IsServersOwn (inputs.Arrives message) = ⊥
IsServersOwn inputs.Crash = ⊥
IsServersOwn inputs.Restart = ⊥
IsServersOwn _ = ⊤

abbrev pub IsClientsOwn : agents.Input → Type 0
IsClientsOwn (agents.Arrives from response) = ⊥
IsClientsOwn agents.Crash = ⊥
IsClientsOwn agents.Restart = ⊥
IsClientsOwn _ = ⊤

-- this server is the receiver
abbrev pub IsFor : ℕ → ServiceMessage → Type 0
IsFor i (BetweenServers from to message) = to ≡ i
IsFor i (ToServer client server request) = server ≡ i
IsFor i (ToClient server client response) = ⊥

-- what the item proposes, if it does, is a command within the limits
abbrev pub ProposalFits : ℕ → ℕ → Server → inputs.Input → Type 0
ProposalFits n i s input = LogEventFits (event_at i (log_request (servers.decides n i s input)))

-- what an actor of a group of n makes of an item that may come to it, where these messages left
pub data GroupTakes (n : ℕ) (left : List GroupMessage) :
    Who → GroupActor → Item → GroupActor → List GroupMessage → Type 0 where
  log_comes : (i : ℕ) (s : Server) (message : Message Command) (turn : servers.ServerTurn) →
      OccursIn left (OfLog message) → message.to ≡ i →
      servers.takes_log_message n i s message ≡ Ok turn →
      GroupTakes n left (ServerOf i) (GroupServer s) (Comes (OfLog message))
      (GroupServer turn.server) turn.sent
  server_comes : (i : ℕ) (s : Server) (message : ServiceMessage) (turn : servers.ServerTurn) →
      OccursIn left (Service message) → IsFor i message →
      ProposalFits n i s (inputs.Arrives message) →
      servers.step n i s (inputs.Arrives message) ≡ Ok turn →
      GroupTakes n left (ServerOf i) (GroupServer s) (Comes (Service message))
      (GroupServer turn.server) turn.sent
  client_comes : (c : ℕ) (x : Agent) (server : ℕ) (response : ClientResponse)
      (turn : agents.AgentTurn) →
      OccursIn left (Service (ToClient server c response)) →
      agents.step n x (agents.Arrives server response) ≡ Ok turn →
      GroupTakes n left (ClientOf c) (GroupClient x) (Comes (Service (ToClient server c response)))
      (GroupClient turn.client) (map Service turn.sent)
  server_own : (i : ℕ) (s : Server) (input : inputs.Input) (turn : servers.ServerTurn) →
      IsServersOwn input → ProposalFits n i s input →
      servers.step n i s input ≡ Ok turn →
      GroupTakes n left (ServerOf i) (GroupServer s) (ServerInput input)
      (GroupServer turn.server) turn.sent
  client_own : (c : ℕ) (x : Agent) (input : agents.Input) (turn : agents.AgentTurn) →
      IsClientsOwn input →
      agents.step n x input ≡ Ok turn →
      GroupTakes n left (ClientOf c) (GroupClient x) (ClientInput input)
      (GroupClient turn.client) (map Service turn.sent)

-- n servers and these nodes' clients
abbrev pub stored_first : List NodeSpec → Who → GroupStore
stored_first nodes (ServerOf i) = OfServer nothing_persistent
stored_first nodes (ClientOf c) = stored_at_first (client_at (agents_from 1 nodes) c)

abbrev pub IsThere : ℕ → List NodeSpec → Who → Type 0
IsThere n nodes (ServerOf i) = i < n
IsThere n nodes (ClientOf c) = (x : Agent) × (client_at (agents_from 1 nodes) c ≡ Some x)

abbrev pub group_actors : ℕ → List NodeSpec → Actors Who GroupActor GroupStore Item GroupMessage
group_actors n nodes = record {
  stored = store_of;
  restarted = begun_by;
  initial = stored_first nodes;
  IsOne = IsThere n nodes;
  Takes = GroupTakes n;
}

-- ---- the world

abbrev pub as_server : Option Server → Option GroupActor
as_server None = None
as_server (Some s) = Some (GroupServer s)

abbrev pub as_client : Option Agent → Option GroupActor
as_client None = None
as_client (Some x) = Some (GroupClient x)

abbrev pub actor_named : World → Who → Option GroupActor
actor_named w (ServerOf i) = as_server (slice_get w.servers i)
actor_named w (ClientOf c) = as_client (client_at w.clients c)

abbrev pub sent_of : World → List GroupMessage
sent_of w = w.sent

abbrev pub GroupReaches : ℕ → List NodeSpec → List Event → List World → World → Type 0
GroupReaches n nodes events past w = Run n nodes events past w × (length w.servers ≡ n)

abbrev pub group_abstraction : ℕ → List NodeSpec →
    Abstraction Who GroupActor GroupMessage Event World
group_abstraction n nodes = record {
  Reach = GroupReaches n nodes;
  actor = actor_named;
  sent = sent_of;
}
