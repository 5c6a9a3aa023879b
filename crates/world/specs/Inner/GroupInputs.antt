-- The clients of a new group, and which frame is for an actor.
use Rattle.std.specs.Prelude.{ℕ, suc, List, [], ◌∷◌}
use Rattle.rows.specs.declared.node.NodeSpec.{NodeSpec}
use Rattle.group_model.specs.Agents.{agent_of}
use Rattle.client_agent.specs.AgentView.{AgentView}
pub use Rattle.world.specs.GroupView.{IsSentTo}

-- the clients of these nodes in a group of n servers, numbered from k on, before their first input
abbrev pub new_agents : ℕ → ℕ → List NodeSpec → List AgentView
new_agents n k [] = []
new_agents n k (node ∷ nodes) = record { size = n; client = agent_of (record node { number = k }) } ∷ new_agents n (suc k) nodes
