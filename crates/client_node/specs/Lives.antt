-- Clients of a group as processes.
use Rattle.std.specs.Prelude.{◌≡◌, ℕ, Option, Some, None, List, [], ◌++◌, codes, decimal}
use Rattle.rows.specs.Fits.{NodeSpecFits}
use Rattle.rows.specs.declared.allocation.AllocId.{AllocId}
use Rattle.rows.specs.declared.node.NodeSpec.{NodeSpec}
use Rattle.group_model.specs.Agents.{Agent, new_life}
use Rattle.group_model.specs.Worlds.{agents_from, client_at}
use Rattle.process_lives.specs.Groups.{IsNodeOf, group_client_code}
use Rattle.process_lives.specs.Lives.{Code}
use Rattle.client_node.specs.Records.{started_replay}
use Rattle.client_node.specs.Starts.{IsStored}
use Rattle.client_node.specs.Turns.{NodeView, Turn, started_by}

-- the first line of the journal of a node in a group of so many servers
abbrev pub node_header : ℕ → NodeSpec → List ℕ
node_header size node =
    codes "minutebarn journal 1 client_node "
    ++ (decimal node.number ++ (codes " " ++ (node.class ++ (codes " " ++ (decimal node.size.cpu ++ (codes " " ++ (decimal node.size.mem ++ (codes " " ++ (decimal node.size.disk ++ (codes " of " ++ (decimal size ++ codes "\n")))))))))))

abbrev pub client_header : ℕ → Option Agent → List ℕ
client_header size None = []
client_header size (Some x) = node_header size x.node

-- of that of client `me`, where these are the nodes
abbrev pub header_text : ℕ → List NodeSpec → ℕ → List ℕ
header_text size nodes me = client_header size (client_at (agents_from 1 nodes) me)

-- what it begins with: the agent of this node, up, with what its store has
pub record BeginsWith (size : ℕ) (nodes : List NodeSpec) (me : ℕ) (store : Option (List ℕ)) (v : NodeView) : Type 0 where
  pub member : IsNodeOf nodes me v.agent.client.node
  pub place : (v.agent.client.node.number ≡ me) × (v.agent.size ≡ size)
  pub within : NodeSpecFits v.agent.client.node
  pub life : v.agent.client.life ≡ Some new_life
  pub stored : IsStored (header_text size nodes me) store (started_by v)

-- how many servers its group has, and the client that it is
abbrev pub size_of : NodeView → ℕ
size_of v = v.agent.size

abbrev pub client_of : NodeView → Agent
client_of v = v.agent.client

-- what such a process runs: the same words as in the contract of `serve`
abbrev pub node_code : ℕ → List NodeSpec → Code ℕ NodeView (List AllocId)
node_code size nodes = group_client_code size_of client_of started_replay Turn (BeginsWith size nodes) (header_text size nodes)
