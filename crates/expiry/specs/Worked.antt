-- Worked heartbeats: node 1 is ready and node 2 disconnected, and node 1 is heard of once.
use Rattle.std.specs.Prelude.{◌≡◌, ℕ, Some, None, Ok, Err, List, [], ◌∷◌}
use Rattle.rows.specs.declared.refusal.Refusal.TheVariants as refusals
use Rattle.rows.specs.declared.node.Node.{Node}
use Rattle.rows.specs.declared.node.NodeStatus.TheVariants as statuses
use Rattle.group_model.specs.Expiry.{HeartbeatCount, heartbeat_counts_over, heartbeat_counts_with}
use Rattle.group_model.specs.HeartbeatCounts.{heartbeat_counted, expiry_refusal}
use Rattle.group_model.specs.Worked.Words.{node_row}

abbrev pub down_node : ℕ → Node
down_node n = record (node_row n) { status = statuses.Down }

abbrev pub away_node : ℕ → Node
away_node n = record (node_row n) { status = statuses.Disconnected }

-- node 3 is down
abbrev pub begin : List HeartbeatCount
begin = heartbeat_counts_over (node_row 1 ∷ away_node 2 ∷ down_node 3 ∷ []) []

abbrev pub count : ℕ → ℕ → HeartbeatCount
count node beats = record { node = node; beats = beats }

abbrev pub BeginAtNone : Type 0
BeginAtNone = begin ≡ count 1 0 ∷ count 2 0 ∷ []

abbrev pub once : List HeartbeatCount
once = count 1 1 ∷ count 2 0 ∷ []

abbrev pub HeartbeatOnce : Type 0
HeartbeatOnce = heartbeat_counted 1 begin ≡ Ok once

-- one that is not held
abbrev pub OtherNode : Type 0
OtherNode = heartbeat_counted 3 begin ≡ Err refusals.UnknownNode

-- it was heard of since 0, and not since 1
abbrev pub Stale : Type 0
Stale = expiry_refusal 1 0 once ≡ Some refusals.StaleExpiry

abbrev pub InTime : Type 0
InTime = expiry_refusal 1 1 once ≡ None

-- another row of a node that is held changes nothing, nor that it is disconnected or comes back
abbrev pub StaysReady : Type 0
StaysReady = heartbeat_counts_with (record (node_row 1) { room = 9 }) once ≡ once

abbrev pub StaysAway : Type 0
StaysAway = heartbeat_counts_with (away_node 1) once ≡ once

abbrev pub StaysAsItComes : Type 0
StaysAsItComes = heartbeat_counts_with (node_row 2) once ≡ once

-- one that is disconnected is heard of too
abbrev pub HeartbeatAway : Type 0
HeartbeatAway = heartbeat_counted 2 once ≡ Ok (count 1 1 ∷ count 2 1 ∷ [])

abbrev pub gone : List HeartbeatCount
gone = heartbeat_counts_with (down_node 1) once

abbrev pub Gone : Type 0
Gone = expiry_refusal 1 1 gone ≡ Some refusals.UnknownNode

-- one that comes back begins anew
abbrev pub BackAtNone : Type 0
BackAtNone = heartbeat_counts_with (node_row 1) gone ≡ begin

-- the greatest number stays
abbrev pub AtTheGreatest : Type 0
AtTheGreatest = heartbeat_counted 1 (count 1 1099511627775 ∷ []) ≡ Ok (count 1 1099511627775 ∷ [])
