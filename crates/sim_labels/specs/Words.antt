-- Ids, names and states, as all that shows a run writes them.
use Rattle.std.specs.Prelude.{ℕ, ◌+◌, Option, Some, None, List, ◌++◌, decimal, codes}
use Rattle.rows.specs.declared.actor.Actor.{Actor}
use Rattle.rows.specs.declared.actor.Actor.TheVariants as actors
use Rattle.rows.specs.declared.allocation.AllocId.{AllocId}
use Rattle.rows.specs.declared.allocation.Allocation.{Allocation}
use Rattle.rows.specs.declared.allocation.ClientState.{ClientState}
use Rattle.rows.specs.declared.allocation.ClientState.TheVariants as clients
use Rattle.rows.specs.declared.allocation.Desired.{Desired}
use Rattle.rows.specs.declared.allocation.Desired.TheVariants as desires
use Rattle.rows.specs.declared.evaluation.EvalId.{EvalId}
use Rattle.rows.specs.declared.evaluation.EvalStatus.{EvalStatus}
use Rattle.rows.specs.declared.evaluation.EvalStatus.TheVariants as statuses
use Rattle.rows.specs.declared.node.DrainMode.{DrainMode}
use Rattle.rows.specs.declared.node.DrainMode.TheVariants as drains
use Rattle.rows.specs.declared.node.NodeStatus.{NodeStatus}
use Rattle.rows.specs.declared.node.NodeStatus.TheVariants as nodes
use Rattle.rows.specs.declared.token.Token.{Token}
use Rattle.raft_core.specs.declared.role.Role.{Role}
use Rattle.raft_core.specs.declared.role.Role.TheVariants as roles

-- two numbers with a point between
abbrev pub pointed : ℕ → ℕ → List ℕ
pointed front back = decimal front ++ (codes "." ++ decimal back)

-- as on its lifeline
abbrev pub actor_text : Actor → List ℕ
actor_text (actors.Server server) = codes "S" ++ decimal (server + 1)
actor_text (actors.Client client) = codes "c" ++ decimal client

abbrev pub eval_text : EvalId → List ℕ
eval_text id = pointed id.index id.slot

abbrev pub alloc_text : AllocId → List ℕ
alloc_text id = pointed id.index id.slot

abbrev pub token_text : Token → List ℕ
token_text token = pointed token.term token.serial

-- the job, the group, and which of the group's allocations it is
abbrev pub name_text : Allocation → List ℕ
name_text row = row.job ++ (codes "." ++ (row.group ++ (codes "[" ++ (decimal row.index ++ codes "]"))))

abbrev pub role_word : Option Role → List ℕ
role_word None = codes "down"
role_word (Some roles.Follower) = codes "follower"
role_word (Some roles.Candidate) = codes "candidate"
role_word (Some roles.Leader) = codes "leader"

abbrev pub node_word : NodeStatus → List ℕ
node_word nodes.Ready = codes "ready"
node_word nodes.Down = codes "down"
node_word nodes.Disconnected = codes "disconnected"

abbrev pub drain_word : DrainMode → List ℕ
drain_word drains.Off = codes "off"
drain_word drains.Slow = codes "slow"
drain_word drains.Force = codes "force"

abbrev pub status_word : EvalStatus → List ℕ
status_word statuses.Pending = codes "pending"
status_word statuses.Blocked = codes "blocked"
status_word statuses.Complete = codes "complete"
status_word statuses.Failed = codes "failed"

abbrev pub desired_word : Desired → List ℕ
desired_word desires.Run = codes "run"
desired_word desires.Stop = codes "stop"

abbrev pub client_word : ClientState → List ℕ
client_word clients.Pending = codes "pending"
client_word clients.Running = codes "running"
client_word clients.Complete = codes "complete"
client_word clients.Failed = codes "failed"
client_word clients.Lost = codes "lost"
client_word clients.Unknown = codes "unknown"
