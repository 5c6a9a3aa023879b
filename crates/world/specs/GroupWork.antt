-- What a server's workers get by an event of the group.
use Rattle.std.specs.Prelude.{ℕ, Option, Some, None, Result, Ok, Err, List, [], ◌∷◌, ◌++◌, length, slice_get}
use Rattle.rows.specs.declared.command.Command.{Command}
use Rattle.rows.specs.declared.refusal.Refusal.{Refusal}
use Rattle.rows.specs.declared.worker.Work.{Work}
use Rattle.raft_model.specs.Messages.{Message}
use Rattle.group_model.specs.Messages.{GroupMessage, OfLog, Service, ServiceMessage, BetweenServers, ToServer, ToClient}
use Rattle.group_model.specs.Inputs as inputs
use Rattle.group_model.specs.Servers.{Server, ServerTurn, step, takes_log_message}
use Rattle.group_model.specs.Worlds.{World, Event, Deliver, AtServer, AtClient}

abbrev pub turn_work : Result ServerTurn Refusal → List Work
turn_work (Ok turn) = turn.work
turn_work (Err r) = []

-- where a server takes an input
abbrev pub input_work : World → ℕ → inputs.Input → Option Server → List Work
input_work w i input None = []
input_work w i input (Some s) = turn_work (step (length w.servers) i s input)

-- where a server gets a message of the log
abbrev pub log_work : World → ℕ → Message Command → Option Server → List Work
log_work w i message None = []
log_work w i message (Some s) = turn_work (takes_log_message (length w.servers) i s message)

abbrev pub service_work : World → ServiceMessage → List Work
service_work w (BetweenServers from to message) = input_work w to (inputs.Arrives (BetweenServers from to message)) (slice_get w.servers to)
service_work w (ToServer client server request) = input_work w server (inputs.Arrives (ToServer client server request)) (slice_get w.servers server)
service_work w (ToClient server client response) = []

abbrev pub message_work : World → Option GroupMessage → List Work
message_work w None = []
message_work w (Some (OfLog message)) = log_work w message.to message (slice_get w.servers message.to)
message_work w (Some (Service message)) = service_work w message

abbrev pub work_of : World → Event → List Work
work_of w (Deliver k) = message_work w (slice_get w.sent k)
work_of w (AtServer i input) = input_work w i input (slice_get w.servers i)
work_of w (AtClient c input) = []

-- what they get by the events of a run, in order, each in the world before it
abbrev pub works : List World → List Event → List Work
works [] events = []
works (w ∷ past) [] = []
works (w ∷ past) (e ∷ events) = work_of w e ++ works past events
