-- What stands beside an arrow and beside an event: the kind, and what matters in it.
use Rattle.std.specs.Prelude.{ℕ, ◌+◌, ◌-◌, Bool, nat_eq, if◌then◌else◌, Option, Some, None, Result, Ok, Err, List, [], ◌++◌, length, slice_get, decimal, codes}
use Rattle.rows.specs.declared.allocation.AllocId.{AllocId}
use Rattle.rows.specs.declared.command.Report.{Report}
use Rattle.rows.specs.declared.evaluation.EvalId.{EvalId}
use Rattle.rows.specs.declared.plan.Plan.{Plan}
use Rattle.rows.specs.declared.reason.Reason.{Reason}
use Rattle.rows.specs.declared.request.OperatorRequest.{OperatorRequest}
use Rattle.rows.specs.declared.request.OperatorRequest.TheVariants as operators
use Rattle.rows.specs.declared.token.Delivery.{Delivery}
use Rattle.rows.specs.declared.worker.EvalOutcome.{EvalOutcome}
use Rattle.rows.specs.declared.worker.EvalOutcome.TheVariants as outcomes
use Rattle.rows.specs.declared.worker.WorkerRequest.{WorkerRequest}
use Rattle.rows.specs.declared.worker.WorkerRequest.TheVariants as requests
use Rattle.rows.specs.declared.worker.WorkerResponse.{WorkerResponse}
use Rattle.rows.specs.declared.worker.WorkerResponse.TheVariants as responses
use Rattle.rows.specs.Reasons.{reason_number}
use Rattle.wire.specs.declared.append.AppendReply.{AppendReply}
use Rattle.wire.specs.declared.body.Body.{Body}
use Rattle.wire.specs.declared.body.Body.TheVariants as bodies
use Rattle.wire.specs.declared.vote.VoteReply.{VoteReply}
use Rattle.wire.specs.Appends.{Append}
use Rattle.wire.specs.Messages.{Message}
use Rattle.wire.specs.Frames.{message_at}
use Rattle.fsm_model.specs.ClusterMachine.{cluster_spec}
use Rattle.group_inputs.specs.declared.client_input.ClientInput.{ClientInput}
use Rattle.group_inputs.specs.declared.client_input.ClientInput.TheVariants as client_inputs
use Rattle.group_inputs.specs.declared.server_input.ServerInput.{ServerInput}
use Rattle.group_inputs.specs.declared.server_input.ServerInput.TheVariants as inputs
use Rattle.group_inputs.specs.declared.event.Event.{Event}
use Rattle.group_inputs.specs.declared.event.Event.TheVariants as events

-- an evaluation, and an allocation: the entry that made it, and its place among those of the entry
abbrev pub eval_label : List ℕ → EvalId → List ℕ
eval_label word eval = word ++ (codes " " ++ (decimal eval.index ++ (codes "." ++ decimal eval.slot)))

-- how many allocations a plan is to make, and to stop
abbrev pub plan_label : List ℕ → Plan → List ℕ
plan_label word plan =
    if nat_eq (length plan.stops) 0
    then eval_label word plan.eval ++ (codes " +" ++ decimal (length plan.places))
    else eval_label word plan.eval ++ (codes " +" ++ (decimal (length plan.places) ++ (codes " -" ++ decimal (length plan.stops))))

-- what was made of an evaluation
abbrev pub outcome_label : EvalOutcome → List ℕ
outcome_label (outcomes.Blocked snapshot) = codes "blocked"
outcome_label outcomes.Complete = codes "complete"
outcome_label outcomes.Failed = codes "failed"

abbrev pub finish_label : List ℕ → EvalId → EvalOutcome → List ℕ
finish_label word eval outcome = eval_label word eval ++ (codes " " ++ outcome_label outcome)

abbrev pub vote_label : VoteReply → List ℕ
vote_label reply = if reply.granted then codes "VoteReply yes t" ++ decimal reply.term else codes "VoteReply no t" ++ decimal reply.term

abbrev pub append_label : {C : Type 0} → Append C → List ℕ
append_label append = codes "Append t" ++ (decimal append.head.term ++ (codes " @" ++ (decimal append.head.prev_index ++ (codes " +" ++ decimal (length append.entries)))))

abbrev pub reply_label : AppendReply → List ℕ
reply_label reply = if reply.ok then codes "AppendReply ok @" ++ decimal reply.at else codes "AppendReply no @" ++ decimal reply.at

abbrev pub request_label : WorkerRequest → List ℕ
request_label requests.Take = codes "Take"
request_label (requests.Submit plan) = plan_label (codes "Submit") plan
request_label (requests.Finish eval token outcome) = finish_label (codes "Finish") eval outcome
request_label (requests.Nack eval token) = eval_label (codes "Nack") eval

abbrev pub delivery_label : Option Delivery → List ℕ
delivery_label None = codes "Delivered none"
delivery_label (Some delivery) = eval_label (codes "Delivered") delivery.eval

abbrev pub response_label : WorkerResponse → List ℕ
response_label (responses.Delivered delivery) = delivery_label delivery
response_label (responses.PlanResult result) = codes "PlanResult " ++ (decimal result.placed ++ codes " placed")
response_label (responses.Refused asked reason) = codes "Refused " ++ decimal (reason_number reason)

-- the first allocation of a report, and how many more there are
abbrev pub first_report : Option Report → ℕ → List ℕ
first_report None more = codes "Report"
first_report (Some report) more =
    if nat_eq more 0
    then codes "Report " ++ (decimal report.id.index ++ (codes "." ++ decimal report.id.slot))
    else codes "Report " ++ (decimal report.id.index ++ (codes "." ++ (decimal report.id.slot ++ (codes " +" ++ decimal more))))

abbrev pub reports_label : List Report → List ℕ
reports_label reports = first_report (slice_get reports 0) (length reports - 1)

-- the number of a refusal that an agent is told, or 0
abbrev pub told_number : Option Reason → ℕ
told_number None = 0
told_number (Some reason) = reason_number reason

abbrev pub body_label : {S C : Type 0} → Body S C → List ℕ
body_label (bodies.VoteRequest request) = codes "VoteRequest t" ++ decimal request.term
body_label (bodies.VoteReply reply) = vote_label reply
body_label (bodies.Append append) = append_label append
body_label (bodies.AppendReply reply) = reply_label reply
body_label (bodies.Install install) = codes "Install t" ++ (decimal install.head.term ++ (codes " @" ++ decimal install.head.index))
body_label (bodies.InstallReply reply) = codes "InstallReply @" ++ decimal reply.at
body_label (bodies.Request request) = request_label request
body_label (bodies.Response response) = response_label response
body_label (bodies.Register node_class size) = codes "Register"
body_label bodies.Heartbeat = codes "Heartbeat"
body_label bodies.Pull = codes "Pull"
body_label (bodies.List index rows) = codes "List @" ++ (decimal index ++ (codes " " ++ decimal (length rows)))
body_label (bodies.Report reports) = reports_label reports
body_label (bodies.Told kind reason) = codes "Told " ++ decimal (told_number reason)

-- of what bytes are as a frame
abbrev pub read_label : {S C : Type 0} → Result (Message S C) ℕ → List ℕ
read_label (Ok message) = body_label message.body
read_label (Err place) = codes "no message"

-- the message of a frame
abbrev pub frame_label : List ℕ → List ℕ
frame_label bytes = read_label (message_at cluster_spec bytes)

-- ---- an actor's own input, in the words of a transcript

abbrev pub to_label : List ℕ → ℕ → List ℕ
to_label word to = word ++ (codes " S" ++ decimal (to + 1))

abbrev pub end_label : AllocId → Bool → List ℕ
end_label id ok = codes "end " ++ (decimal id.index ++ (codes "." ++ (decimal id.slot ++ (if ok then codes " complete" else codes " failed"))))

abbrev pub operator_label : OperatorRequest → List ℕ
operator_label (operators.JobPut job) = codes "put " ++ job.name
operator_label (operators.JobStop name) = codes "stop " ++ name
operator_label (operators.EvalPut name) = codes "eval " ++ name
operator_label (operators.Drain node force) = codes "drain " ++ (decimal node ++ (if force then codes " force" else codes " slow"))

abbrev pub server_input_label : ServerInput → List ℕ
server_input_label (inputs.Frame bytes) = codes "frame"
server_input_label inputs.Timeout = codes "timeout"
server_input_label inputs.Beat = codes "beat"
server_input_label (inputs.Request request) = operator_label request
server_input_label (inputs.Take to) = to_label (codes "take") to
server_input_label (inputs.Submit to plan) = plan_label (codes "submit") plan
server_input_label (inputs.Finish to eval token outcome) = finish_label (codes "finish") eval outcome
server_input_label (inputs.Nack to eval token) = eval_label (codes "nack") eval
server_input_label inputs.PlanTurn = codes "plan"
server_input_label (inputs.Lapse eval) = eval_label (codes "lapse") eval
server_input_label (inputs.Expire node beats) = codes "expire " ++ (decimal node ++ (codes " " ++ decimal beats))
server_input_label (inputs.DrainTurn node) = codes "drain " ++ decimal node
server_input_label inputs.FreeTurn = codes "free"
server_input_label inputs.Reap = codes "reap"
server_input_label inputs.Compact = codes "compact"
server_input_label inputs.Crash = codes "crash"
server_input_label inputs.Restart = codes "restart"

abbrev pub client_input_label : ClientInput → List ℕ
client_input_label (client_inputs.Frame bytes) = codes "frame"
client_input_label (client_inputs.Register to) = to_label (codes "register") to
client_input_label (client_inputs.Ping to) = to_label (codes "ping") to
client_input_label (client_inputs.Pull to) = to_label (codes "pull") to
client_input_label (client_inputs.End id ok) = end_label id ok
client_input_label client_inputs.Crash = codes "crash"
client_input_label client_inputs.Restart = codes "restart"

-- a delivery has none
abbrev pub event_label : Event → List ℕ
event_label (events.Deliver number) = []
event_label (events.Server server input) = server_input_label input.value
event_label (events.Client client input) = client_input_label input.value

-- with the name of the actor before it
abbrev pub named_label : Event → List ℕ
named_label (events.Deliver number) = []
named_label (events.Server server input) = codes "S" ++ (decimal (server + 1) ++ (codes " " ++ server_input_label input.value))
named_label (events.Client client input) = codes "c" ++ (decimal client ++ (codes " " ++ client_input_label input.value))
