-- The clients among the actors of cells, and their nodes.
use Rattle.std.specs.Prelude.{◌≡◌, ◌≢◌, ℕ, suc, ◌<◌, Some, List, length, slice_get}
use Rattle.rows.specs.declared.actor.Actor.TheVariants as actors
use Rattle.rows.specs.declared.node.NodeSpec.{NodeSpec}
use Rattle.client_agent.specs.AgentView.{AgentView}
use Rattle.actor.specs.declared.group_actor.GroupActor.TheVariants.{Client}
use Rattle.cluster.specs.declared.closing.NamedActor.{NamedActor}

-- the agent of client c
abbrev pub agent_named : ℕ → AgentView → NamedActor
agent_named c a = record { me = actors.Client c; actor = Client a }

-- it is among these
abbrev pub IsAmong : List NamedActor → ℕ → AgentView → Type 0
IsAmong named c a = (place : ℕ) × (slice_get named place ≡ Some (agent_named c a))

abbrev pub HasClient : List NamedActor → ℕ → Type 0
HasClient named c = (a : AgentView) × IsAmong named c a

-- it is none of the first ones
abbrev pub NoneBefore : List NamedActor → ℕ → ℕ → Type 0
NoneBefore named c count =
    (place : ℕ) → place < count → (a : AgentView) → slice_get named place ≢ Some (agent_named c a)

-- m clients, numbered from 1, are among these
abbrev pub HasClients : ℕ → List NamedActor → Type 0
HasClients m named = (k : ℕ) → k < m → HasClient named (suc k)

-- it is the node of an agent of client c among these
abbrev pub IsNodeOf : List NamedActor → ℕ → NodeSpec → Type 0
IsNodeOf named c node = (a : AgentView) × IsAmong named c a × (node ≡ a.client.node)

-- these are the nodes of m clients, numbered from 1, that are among these actors
pub record AreNodesOf (m : ℕ) (named : List NamedActor) (nodes : List NodeSpec) : Type 0 where
  pub count : length nodes ≡ m
  pub each : (k : ℕ) (node : NodeSpec) → slice_get nodes k ≡ Some node → IsNodeOf named (suc k) node
