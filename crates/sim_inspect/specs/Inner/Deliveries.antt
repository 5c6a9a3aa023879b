-- What became of the evaluations that a desk gave out.
use Rattle.std.specs.Prelude.{ℕ, nat_le, is_some, if◌then◌else◌, Option, Some, None, List, codes}
use Rattle.rows.specs.declared.actor.Actor.{Actor}
use Rattle.rows.specs.declared.actor.Actor.TheVariants as actors
use Rattle.rows.specs.declared.evaluation.EvalId.{EvalId}
use Rattle.fsm_model.specs.Words.{same_eval}
use Rattle.group_model.specs.Brokers.{Task}
use Rattle.eval_broker.specs.Answers.{is_task_acked, pair_of}
use Rattle.sim_inspect.specs.declared.deliveries.Sent.{Sent}

-- what became of an evaluation that was given out so often, by its task
abbrev pub delivery_word : Option Task → ℕ → List ℕ
delivery_word task times =
    if is_task_acked task then codes "done" else
    (if is_some (pair_of task) then codes "out" else (if nat_le 3 times then codes "failed" else codes "back"))

-- a delivery, if it is of this evaluation, comes in the place of the last one before it
abbrev pub later : EvalId → Option Sent → Sent → Option Sent
later eval last one = if same_eval one.delivery.eval eval then Some one else last

-- the server that an actor is
abbrev pub server_of : Actor → Option ℕ
server_of (actors.Server server) = Some server
server_of (actors.Client client) = None
