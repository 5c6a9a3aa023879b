-- What a message is, and between whom it may go.
use Rattle.std.specs.Prelude.{ℕ, List, Bool, false, true, not, nat_eq, if◌then◌else◌}
use Rattle.rows.specs.declared.actor.Actor.{Actor}
use Rattle.rows.specs.declared.actor.Actor.TheVariants.{Server, Client}
use Rattle.rows.specs.declared.worker.WorkerRequest.{WorkerRequest}
use Rattle.rows.specs.declared.worker.WorkerRequest.TheVariants as requests
use Rattle.rows.specs.declared.worker.WorkerResponse.{WorkerResponse}
use Rattle.rows.specs.declared.worker.WorkerResponse.TheVariants as responses
use Rattle.machine_model.specs.declared.entry.Entry.{Entry}
use Rattle.wire.specs.declared.kind.Kind.{Kind}
use Rattle.wire.specs.declared.kind.Kind.TheVariants as kinds
use Rattle.wire.specs.declared.append.AppendHead.{AppendHead}
use Rattle.wire.specs.declared.append.AppendReply.{AppendReply}
use Rattle.wire.specs.declared.install.InstallHead.{InstallHead}
use Rattle.wire.specs.declared.body.Body.{Body}
use Rattle.wire.specs.declared.body.Body.TheVariants as bodies
use Rattle.wire.specs.declared.log_message.LogBody.{LogBody}
use Rattle.wire.specs.declared.log_message.LogBody.TheVariants as logs

-- a message of one actor to another, in a group that replicates a machine of states S and commands
-- C
pub record Message (S C : Type 0) : Type 0 where
  pub from : Actor
  pub to : Actor
  pub body : Body S C

abbrev pub request_kind : WorkerRequest → Kind
request_kind requests.Take = kinds.Take
request_kind (requests.Submit _) = kinds.Submit
request_kind (requests.Finish _ _ _) = kinds.Finish
request_kind (requests.Nack _ _) = kinds.Nack

abbrev pub response_kind : WorkerResponse → Kind
response_kind (responses.Delivered _) = kinds.Delivered
response_kind (responses.PlanResult _) = kinds.PlanResult
response_kind (responses.Refused _ _) = kinds.Refused

abbrev pub kind_of : {S C : Type 0} → Body S C → Kind
kind_of (bodies.VoteRequest _) = kinds.VoteRequest
kind_of (bodies.VoteReply _) = kinds.VoteReply
kind_of (bodies.Append _) = kinds.Append
kind_of (bodies.AppendReply _) = kinds.AppendReply
kind_of (bodies.Install _) = kinds.Install
kind_of (bodies.InstallReply _) = kinds.InstallReply
kind_of (bodies.Request request) = request_kind request
kind_of (bodies.Response response) = response_kind response
kind_of (bodies.Register _ _) = kinds.Register
kind_of bodies.Heartbeat = kinds.Heartbeat
kind_of bodies.Pull = kinds.Pull
kind_of (bodies.List _ _) = kinds.List
kind_of (bodies.Report _) = kinds.Report
kind_of (bodies.Told _ _) = kinds.Told

-- the kinds by which servers keep one log
abbrev pub is_of_log : Kind → Bool
is_of_log kinds.VoteRequest = true
is_of_log kinds.VoteReply = true
is_of_log kinds.Append = true
is_of_log kinds.AppendReply = true
is_of_log kinds.Install = true
is_of_log kinds.InstallReply = true
is_of_log _ = false

-- what a message by which servers keep one log says, as a body of any message
abbrev pub log_body : {S C : Type 0} → LogBody S C → Body S C
log_body (logs.VoteRequest v) = bodies.VoteRequest v
log_body (logs.VoteReply v) = bodies.VoteReply v
log_body (logs.Append v) = bodies.Append v
log_body (logs.AppendReply v) = bodies.AppendReply v
log_body (logs.Install v) = bodies.Install v.value
log_body (logs.InstallReply v) = bodies.InstallReply v

-- the kinds that workers and the leader's desk send each other
abbrev pub is_of_desk : Kind → Bool
is_of_desk kinds.Take = true
is_of_desk kinds.Delivered = true
is_of_desk kinds.Submit = true
is_of_desk kinds.PlanResult = true
is_of_desk kinds.Finish = true
is_of_desk kinds.Nack = true
is_of_desk kinds.Refused = true
is_of_desk _ = false

-- the kinds whose bodies hold a list or a state: reading one of them takes memory, and reading any
-- other takes none
abbrev pub takes_memory : Kind → Bool
takes_memory kinds.Append = true
takes_memory kinds.Install = true
takes_memory kinds.Submit = true
takes_memory kinds.PlanResult = true
takes_memory kinds.List = true
takes_memory kinds.Report = true
takes_memory _ = false

-- the kinds that a node's agent sends
abbrev pub is_of_agent : Kind → Bool
is_of_agent kinds.Register = true
is_of_agent kinds.Heartbeat = true
is_of_agent kinds.Pull = true
is_of_agent kinds.Report = true
is_of_agent _ = false

abbrev pub is_server : Actor → Bool
is_server (Server _) = true
is_server (Client _) = false

abbrev pub is_another_server : Actor → Actor → Bool
is_another_server (Server from) (Server to) = not (nat_eq to from)
is_another_server _ _ = false

abbrev pub are_servers : Actor → Actor → Bool
are_servers (Server _) (Server _) = true
are_servers _ _ = false

abbrev pub is_client_to_server : Actor → Actor → Bool
is_client_to_server (Client _) (Server _) = true
is_client_to_server _ _ = false

abbrev pub is_server_to_client : Actor → Actor → Bool
is_server_to_client (Server _) (Client _) = true
is_server_to_client _ _ = false

-- who sends messages of a kind: an agent's come from clients, and all others from servers
abbrev pub may_come_from : Kind → Actor → Bool
may_come_from k from = if is_of_agent k then not (is_server from) else is_server from

-- to whom messages of a kind go from there: those by which servers keep one log go to another one,
-- those of workers and the leader's desk may go to the sender itself
abbrev pub may_go : Kind → Actor → Actor → Bool
may_go kinds.VoteRequest from to = is_another_server from to
may_go kinds.VoteReply from to = is_another_server from to
may_go kinds.Append from to = is_another_server from to
may_go kinds.AppendReply from to = is_another_server from to
may_go kinds.Install from to = is_another_server from to
may_go kinds.InstallReply from to = is_another_server from to
may_go kinds.Register from to = is_client_to_server from to
may_go kinds.Heartbeat from to = is_client_to_server from to
may_go kinds.Pull from to = is_client_to_server from to
may_go kinds.Report from to = is_client_to_server from to
may_go kinds.List from to = is_server_to_client from to
may_go kinds.Told from to = is_server_to_client from to
may_go _ from to = are_servers from to

-- an Append of these parts, from one server to another
abbrev pub append_message : {S C : Type 0} → ℕ → ℕ → AppendHead → List (Entry C) → Message S C
append_message from to head entries = record { from = Server from; to = Server to; body = bodies.Append (record { head = head; entries = entries }) }

-- an answer to a leader, from one server to another
abbrev pub answer_message : {S C : Type 0} → ℕ → ℕ → AppendReply → Message S C
answer_message from to reply = record { from = Server from; to = Server to; body = bodies.AppendReply reply }

-- an Install of these parts, from one server to another
abbrev pub install_message : {S C : Type 0} → ℕ → ℕ → InstallHead → S → Message S C
install_message from to head state = record { from = Server from; to = Server to; body = bodies.Install (record { head = head; state = state }) }
