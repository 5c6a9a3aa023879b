-- Which rows a command makes or replaces, as they are told to the parts of a desk.
use Rattle.std.specs.Prelude.{◌≡◌, ◌≤◌, Bool, T, false, if◌then◌else◌, Option, Some, None, List, [], ◌∷◌, length}
use Rattle.std.specs.List.{AllByRecursion, list_any}
use Rattle.std.specs.Ordering.{is_eq}
use Rattle.rows.specs.declared.job.Job.{Job}
use Rattle.rows.specs.declared.node.Node.{Node}
use Rattle.rows.specs.declared.evaluation.EvalId.{EvalId}
use Rattle.rows.specs.declared.evaluation.Evaluation.{Evaluation}
use Rattle.rows.specs.declared.command.Command.{Command}
use Rattle.rows.specs.declared.command.Command.TheVariants as commands
use Rattle.rows.specs.Keys.{eval_cmp, eval_id}
use Rattle.rows.specs.Rising.{is_rising}
use Rattle.fsm_tables.specs.Rows.{row_of}
use Rattle.rows.specs.Limits.{most_jobs}
use Rattle.fsm_model.specs.Words.{State, job_of, node_of, eval_of}
use Rattle.fsm_model.specs.Effect.{with_evals}
use Rattle.group_model.specs.Brokers.{Broker, broker_with}
use Rattle.group_model.specs.Blocked.{BlockedEvals, blocked_with_eval, blocked_with_job}
use Rattle.group_model.specs.Expiry.{HeartbeatCount, heartbeat_counts_with}
use Rattle.blocked.specs.Rooms.{with_room_of}
use Rattle.leader.specs.Following.{has_just_room}

-- ---- evaluations

abbrev pub IsRowOf : List Evaluation → Evaluation → Type 0
IsRowOf evals e = row_of eval_cmp eval_id e.id evals ≡ Some e

abbrev pub tells_of : EvalId → List Evaluation → Bool
tells_of id rows = list_any (λ e. is_eq (eval_cmp id (eval_id e))) rows

-- each of these is a row of the later evaluations, in which all others are as they were
pub record AreChanges (rows before after : List Evaluation) : Type 0 where
  pub each : AllByRecursion (IsRowOf after) rows
  pub others : (id : EvalId) → tells_of id rows ≡ false
      → row_of eval_cmp eval_id id after ≡ row_of eval_cmp eval_id id before

-- they are what the last entry changed by touching jobs, whichever these were
abbrev pub TouchChanged : State → List Evaluation → Type 0
TouchChanged s rows = (jobs : List Job) (before : List Evaluation) → 1 ≤ s.count →
    length jobs ≤ most_jobs →
    T (is_rising eval_cmp eval_id before) → s.evals ≡ with_evals s.count 0 jobs before →
    AreChanges rows before s.evals

abbrev pub row_if_any : Option Evaluation → List Evaluation
row_if_any None = []
row_if_any (Some e) = e ∷ []

-- the rows to tell of after a command, which left this state
abbrev pub TellsEvals : Command → State → List Evaluation → Type 0
TellsEvals commands.Noop s rows = rows ≡ []
TellsEvals (commands.JobPut j) s rows = TouchChanged s rows
TellsEvals (commands.JobStop name) s rows = TouchChanged s rows
TellsEvals (commands.NodePut n) s rows = rows ≡ []
TellsEvals (commands.NodeDown n) s rows = TouchChanged s rows
TellsEvals (commands.Disconnect n) s rows = rows ≡ []
TellsEvals (commands.Drain n force) s rows = rows ≡ []
TellsEvals (commands.DrainDone n) s rows = rows ≡ []
TellsEvals (commands.Migrate ids) s rows = TouchChanged s rows
TellsEvals (commands.EvalPut name) s rows = TouchChanged s rows
TellsEvals (commands.EvalStatus id to) s rows = rows ≡ row_if_any (eval_of id s)
TellsEvals (commands.Plan p) s rows = rows ≡ []
TellsEvals (commands.Report n rs) s rows = TouchChanged s rows

abbrev pub broker_after : List Evaluation → Broker → Broker
broker_after [] b = b
broker_after (e ∷ rows) b = broker_after rows (broker_with e b)

abbrev pub blocked_after : State → List Evaluation → BlockedEvals → BlockedEvals
blocked_after s [] b = b
blocked_after s (e ∷ rows) b = blocked_after s rows (blocked_with_eval s e b)

-- ---- jobs

abbrev pub at_job : Option Job → BlockedEvals → BlockedEvals
at_job None b = b
at_job (Some j) b = blocked_with_job j b

-- a job's row that is put anew may ask for other classes
abbrev pub tell_job : Command → State → BlockedEvals → BlockedEvals
tell_job (commands.JobPut j) s b = at_job (job_of j.name s) b
tell_job _ s b = b

-- ---- nodes

abbrev pub at_node : Option Node → List HeartbeatCount → List HeartbeatCount
at_node None counts = counts
at_node (Some n) counts = heartbeat_counts_with n counts

-- a node that comes, and one that is down or disconnected
abbrev pub tell_node : Command → State → List HeartbeatCount → List HeartbeatCount
tell_node (commands.NodePut n) s counts = at_node (node_of n.number s) counts
tell_node (commands.NodeDown n) s counts = at_node (node_of n s) counts
tell_node (commands.Disconnect n) s counts = at_node (node_of n s) counts
tell_node _ s counts = counts

-- nodes that have room from this command on: one that comes, and those on which allocations end
abbrev pub tell_rooms : Command → State → BlockedEvals → BlockedEvals
tell_rooms (commands.NodePut n) s b = with_room_of s.nodes b
tell_rooms (commands.Plan p) s b = if has_just_room s then with_room_of s.nodes b else b
tell_rooms (commands.Report n rs) s b = if has_just_room s then with_room_of s.nodes b else b
tell_rooms _ s b = b
