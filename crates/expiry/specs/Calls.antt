-- Lists of calls, and which nodes are held after them.
use Rattle.std.specs.Prelude.{ℕ, T, List, [], ◌∷◌}
use Rattle.std.specs.Ordering.{nat_cmp}
use Rattle.rows.specs.declared.node.Node.{Node}
use Rattle.rows.specs.Keys.{node_number}
use Rattle.rows.specs.Rising.{is_rising}
use Rattle.fsm_tables.specs.Rows.{put}
use Rattle.fsm_model.specs.Words.{State}
use Rattle.group_model.specs.Expiry.{HeartbeatCount, HoldsHeld, heartbeat_counts_over, heartbeat_counts_with, with_heartbeat}

-- a call that changes counts: they are rebuilt over a state, whose nodes are in order; a node's row
-- was made or replaced; a node was heard of
pub data Call : Type 0 where
  Rebuild : (s : State) → T (is_rising nat_cmp node_number s.nodes) → Call
  Changed : (row : Node) → Call
  Beat : (node : ℕ) → Call

-- the nodes of the state by then
abbrev pub nodes_after : Call → List Node → List Node
nodes_after (Rebuild s rising) nodes = s.nodes
nodes_after (Changed row) nodes = put nat_cmp node_number row nodes
nodes_after (Beat node) nodes = nodes

abbrev pub counts_after : Call → List HeartbeatCount → List HeartbeatCount
counts_after (Rebuild s rising) counts = heartbeat_counts_over s.nodes []
counts_after (Changed row) counts = heartbeat_counts_with row counts
counts_after (Beat node) counts = with_heartbeat node counts

-- after these calls those of the nodes are held that are not down
abbrev pub HoldsAfter : List Node → List HeartbeatCount → List Call → Type 0
HoldsAfter nodes counts [] = HoldsHeld nodes counts
HoldsAfter nodes counts (c ∷ calls) = HoldsAfter (nodes_after c nodes) (counts_after c counts) calls
