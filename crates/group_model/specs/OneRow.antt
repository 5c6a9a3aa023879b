-- What is kept over the rows of a state, and what becomes of it where one row alone is made or
-- replaced, are the same.
use Rattle.std.specs.Prelude.{◌≡◌, ◌≤◌, true, T, Option, Some, None, List}
use Rattle.std.specs.Ordering.{nat_cmp}
use Rattle.rows.specs.declared.job.Job.{Job}
use Rattle.rows.specs.declared.node.Node.{Node}
use Rattle.rows.specs.declared.evaluation.Evaluation.{Evaluation}
use Rattle.rows.specs.Keys.{name_cmp, eval_cmp, job_name, node_number, eval_id}
use Rattle.rows.specs.Rising.{is_rising}
use Rattle.fsm_tables.specs.Rows.{put}
use Rattle.fsm_model.specs.Words.{State}
use Rattle.fsm_model.specs.Words.{node_of, is_blocked}
use Rattle.group_model.specs.Brokers.{Broker, HoldsPending, broker_over, broker_with}
use Rattle.group_model.specs.Expiry.{HeartbeatCount, HoldsHeld, heartbeat_counts_over, heartbeat_counts_with}
use Rattle.group_model.specs.Blocked.{is_due, is_due_by, room_over, blocked_eval, blocked_over, blocked_with_eval, blocked_with_node, blocked_with_job}

-- the broker, at a row put among evaluations of which it holds the pending ones
abbrev pub BrokerFollows : Type 0
BrokerFollows = (evals : List Evaluation) (e : Evaluation) (b : Broker) → T (is_rising eval_cmp eval_id evals) → HoldsPending evals b.tasks →
    broker_over (put eval_cmp eval_id e evals) b ≡ broker_with e b

-- the counts of heartbeats, at a row put among nodes of which they are of those held
abbrev pub CountsFollow : Type 0
CountsFollow = (nodes : List Node) (n : Node) (counts : List HeartbeatCount) → T (is_rising nat_cmp node_number nodes) → HoldsHeld nodes counts →
    heartbeat_counts_over (put nat_cmp node_number n nodes) counts ≡ heartbeat_counts_with n counts

-- the blocked evaluations, at a row put among a state's evaluations
abbrev pub BlockedFollowEvals : Type 0
BlockedFollowEvals = (s : State) (e : Evaluation) → T (is_rising eval_cmp eval_id s.evals) →
    blocked_over (record s { evals = put eval_cmp eval_id e s.evals }) ≡ blocked_with_eval s e (blocked_over s)

-- a node that takes this one's place has its class, and room no earlier
abbrev pub Replaces : Node → Option Node → Type 0
Replaces n None = Unit {0}
Replaces n (Some old) = (old.class ≡ n.class) × (old.room ≤ n.room)

-- the same at a row put among its nodes
abbrev pub BlockedFollowNodes : Type 0
BlockedFollowNodes = (s : State) (n : Node) → Replaces n (node_of n.number s) →
    blocked_over (record s { nodes = put nat_cmp node_number n s.nodes }) ≡ blocked_with_node n (blocked_over s)

-- and at a row put among its jobs
abbrev pub BlockedFollowJobs : Type 0
BlockedFollowJobs = (s : State) (j : Job) → blocked_over (record s { jobs = put name_cmp job_name j s.jobs }) ≡ blocked_with_job j (blocked_over s)

-- whether a blocked evaluation is due is told by its job's classes and their room
abbrev pub DueByRoom : Type 0
DueByRoom = (s : State) (e : Evaluation) → is_blocked e.status ≡ true → is_due s e ≡ is_due_by (room_over s.nodes) (blocked_eval s e)
