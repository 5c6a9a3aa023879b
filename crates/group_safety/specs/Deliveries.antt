-- What was delivered to workers, and what is outstanding.
use Rattle.std.specs.Prelude.{ℕ, ◌&&◌, ◌==◌, if◌then◌else◌, Option, Some, None, List, [], ◌∷◌, filter_map}
use Rattle.rows.specs.declared.evaluation.EvalId.{EvalId}
use Rattle.rows.specs.declared.token.Token.{Token}
use Rattle.rows.specs.declared.token.Delivery.{Delivery}
use Rattle.rows.specs.declared.worker.WorkerResponse.{WorkerResponse}
use Rattle.rows.specs.declared.worker.WorkerResponse.TheVariants.{Delivered, PlanResult, Refused}
use Rattle.raft_model.specs.Rafts.{is_leader}
use Rattle.group_model.specs.Messages.{GroupMessage, OfLog, Service, ServiceMessage, BetweenServers, ToServer, ToClient, WorkerMessage, Asks, Answers}
use Rattle.group_model.specs.Brokers.{Mark, Free, Out, Acked, Task, task_of}
use Rattle.group_model.specs.Desks.{Desk}
use Rattle.group_model.specs.Servers.{Server}

-- ---- a delivery, as an evaluation and its token, by what was sent

abbrev pub delivered : Option Delivery → Option (EvalId × Token)
delivered None = None
delivered (Some d) = Some (d.eval, d.token)

abbrev pub delivered_by_response : WorkerResponse → Option (EvalId × Token)
delivered_by_response (Delivered what) = delivered what
delivered_by_response (PlanResult result) = None
delivered_by_response (Refused request reason) = None

abbrev pub delivered_to_worker : WorkerMessage → Option (EvalId × Token)
delivered_to_worker (Asks request) = None
delivered_to_worker (Answers response) = delivered_by_response response

abbrev pub delivered_by_service : ServiceMessage → Option (EvalId × Token)
delivered_by_service (BetweenServers from to message) = delivered_to_worker message
delivered_by_service (ToServer client server request) = None
delivered_by_service (ToClient server client response) = None

abbrev pub delivered_by : GroupMessage → Option (EvalId × Token)
delivered_by (OfLog message) = None
delivered_by (Service message) = delivered_by_service message

-- all that was delivered, in the order in which it was sent
abbrev pub deliveries : List GroupMessage → List (EvalId × Token)
deliveries messages = filter_map delivered_by messages

-- ---- the token under which an evaluation is outstanding, if it is: by its mark, among tasks, at a
-- desk, and at the desk of a term's leader

abbrev pub token_of_mark : Mark → Option Token
token_of_mark Free = None
token_of_mark (Out token wait) = Some token
token_of_mark Acked = None

abbrev pub token_of_task : Option Task → Option Token
token_of_task None = None
token_of_task (Some t) = token_of_mark t.mark

abbrev pub token_among : EvalId → List Task → Option Token
token_among eval tasks = token_of_task (task_of eval tasks)

abbrev pub token_at : EvalId → Option Desk → Option Token
token_at eval None = None
token_at eval (Some d) = token_among eval d.broker.tasks

abbrev pub token_in : List Server → ℕ → EvalId → Option Token
token_in [] term eval = None
token_in (s ∷ servers) term eval =
    if is_leader s.raft.mode && (s.raft.term == term)
    then token_at eval s.desk
    else token_in servers term eval
