-- Lists of calls, and that the value is that of the applied state after them.
use Rattle.std.specs.Prelude.{◌≡◌, T, List, [], ◌∷◌}
use Rattle.std.specs.Ordering.{nat_cmp}
use Rattle.rows.specs.declared.job.Job.{Job}
use Rattle.rows.specs.declared.node.Node.{Node}
use Rattle.rows.specs.declared.evaluation.Evaluation.{Evaluation}
use Rattle.rows.specs.Keys.{name_cmp, eval_cmp, job_name, node_number, eval_id}
use Rattle.rows.specs.Rising.{is_rising}
use Rattle.fsm_tables.specs.Rows.{put}
use Rattle.fsm_model.specs.Words.{State, node_of}
use Rattle.group_model.specs.Blocked.{BlockedEvals, blocked_over, blocked_with_eval, blocked_with_node, blocked_with_job}
use Rattle.group_model.specs.OneRow.{Replaces}

-- the value is rebuilt over a state, whose evaluations are in order; or it is told of a row that
-- was made or replaced
pub data Call : Type 0 where
  Rebuild : (s : State) → T (is_rising eval_cmp eval_id s.evals) → Call
  EvalChanged : (row : Evaluation) → Call
  NodeChanged : (row : Node) → Call
  JobChanged : (row : Job) → Call

-- the state by then
abbrev pub state_after_call : Call → State → State
state_after_call (Rebuild s rising) old = s
state_after_call (EvalChanged row) s = record s { evals = put eval_cmp eval_id row s.evals }
state_after_call (NodeChanged row) s = record s { nodes = put nat_cmp node_number row s.nodes }
state_after_call (JobChanged row) s = record s { jobs = put name_cmp job_name row s.jobs }

-- the value by then: `put` where the evaluation is blocked, with the classes of its job, else
-- `take`; `room` of the node's class; `put_job`
abbrev pub value_after : Call → State → BlockedEvals → BlockedEvals
value_after (Rebuild s rising) old b = blocked_over s
value_after (EvalChanged row) s b = blocked_with_eval s row b
value_after (NodeChanged row) s b = blocked_with_node row b
value_after (JobChanged row) s b = blocked_with_job row b

-- a node's row keeps its class, and its room does not go back
abbrev pub MayCome : Call → State → Type 0
MayCome (NodeChanged row) s = Replaces row (node_of row.number s)
MayCome _ s = Unit {0}

-- after these calls the value is that of the state
abbrev pub IsOfState : State → BlockedEvals → List Call → Type 0
IsOfState s b [] = b ≡ blocked_over s
IsOfState s b (c ∷ calls) = MayCome c s → IsOfState (state_after_call c s) (value_after c s b) calls
