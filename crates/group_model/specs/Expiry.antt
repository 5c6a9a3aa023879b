-- How often the nodes that are not down were heard of since the desk opened, or since they came.
-- (Nomad documentation, "server" block of the agent configuration: heartbeats of clients; a count
-- in place of a timer is this project's own.)
use Rattle.std.specs.Prelude.{◌≡◌, ℕ, suc, Bool, not, if◌then◌else◌, nat_eq, nat_lt, Option, Some, None, List, map, filter}
use Rattle.std.specs.Ordering.{nat_cmp}
use Rattle.rows.specs.declared.node.Node.{Node}
use Rattle.rows.specs.declared.node.NodeStatus.{NodeStatus}
use Rattle.rows.specs.Keys.{node_number}
use Rattle.raft_model.specs.Logs.{MAX}
use Rattle.fsm_tables.specs.Rows.{row_of, put}
use Rattle.rows.specs.NodeStatuses.{is_down}
use Rattle.fsm_tables.specs.ReservedTables.{without}

-- whether heartbeats of a node of this status are counted: it is ready or disconnected
abbrev pub is_held : NodeStatus → Bool
is_held status = not (is_down status)

-- a node that is held with its number of heartbeats
pub record HeartbeatCount : Type 0 where
  pub node : ℕ
  pub beats : ℕ

abbrev pub count_node : HeartbeatCount → ℕ
count_node c = c.node

abbrev pub heartbeat_count_of : ℕ → List HeartbeatCount → Option HeartbeatCount
heartbeat_count_of n counts = row_of nat_cmp count_node n counts

abbrev pub heartbeats_of : Option HeartbeatCount → ℕ
heartbeats_of None = 0
heartbeats_of (Some c) = c.beats

-- a node that comes has 0; one that is there keeps its number
abbrev pub counted_node : Node → Option HeartbeatCount → HeartbeatCount
counted_node n old = record { node = n.number; beats = heartbeats_of old }

-- over these nodes: those that are held
abbrev pub heartbeat_counts_over : List Node → List HeartbeatCount → List HeartbeatCount
heartbeat_counts_over nodes old = map (λ n. counted_node n (heartbeat_count_of n.number old)) (filter (λ n. is_held n.status) nodes)

-- the counts are those of the nodes among these that are held, in their order
abbrev pub HoldsHeld : List Node → List HeartbeatCount → Type 0
HoldsHeld nodes counts = map count_node counts ≡ map node_number (filter (λ (n : Node). is_held n.status) nodes)

-- Over rows of which one alone was made or replaced since: it comes in, stays or goes.
abbrev pub heartbeat_counts_with : Node → List HeartbeatCount → List HeartbeatCount
heartbeat_counts_with n old =
    if is_held n.status
    then put nat_cmp count_node (counted_node n (heartbeat_count_of n.number old)) old
    else without nat_cmp count_node n.number old

-- one heartbeat more; the greatest number stays
abbrev pub one_heartbeat_more : HeartbeatCount → HeartbeatCount
one_heartbeat_more c = record c { beats = if nat_lt c.beats MAX then suc c.beats else c.beats }

abbrev pub with_heartbeat : ℕ → List HeartbeatCount → List HeartbeatCount
with_heartbeat n counts = map (λ c. if nat_eq c.node n then one_heartbeat_more c else c) counts
