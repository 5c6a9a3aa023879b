-- What is asked of a node's status.
use Rattle.std.specs.Prelude.{Bool, true, false}
use Rattle.rows.specs.declared.node.NodeStatus.{NodeStatus}
use Rattle.rows.specs.declared.node.NodeStatus.TheVariants as statuses

-- its agent reports
abbrev pub is_ready : NodeStatus → Bool
is_ready statuses.Ready = true
is_ready statuses.Down = false
is_ready statuses.Disconnected = false

-- it was not heard of in time, and its work is lost
abbrev pub is_down : NodeStatus → Bool
is_down statuses.Ready = false
is_down statuses.Down = true
is_down statuses.Disconnected = false
