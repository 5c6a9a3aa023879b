-- The events of the program's group as those of the definitions.
use Rattle.std.specs.Prelude.{◌≡◌, ℕ, zero, suc, ◌^◌, List, [], map}
use Rattle.rows.specs.declared.worker.WorkerRequest.TheVariants.{Take}
use Rattle.group_model.specs.Messages.{BetweenServers, Asks, Listing}
use Rattle.group_model.specs.Inputs as inputs
use Rattle.group_model.specs.Agents as agents
use Rattle.group_model.specs.Worlds.{Event, Deliver, AtServer, AtClient}
use Rattle.group_inputs.specs.declared.client_input.ClientInput.{ClientInput}
use Rattle.group_inputs.specs.declared.client_input.ClientInput.TheVariants as client_inputs
use Rattle.group_inputs.specs.declared.event.Event.{Event as GroupEvent}
use Rattle.group_inputs.specs.declared.event.Event.TheVariants as events
use Rattle.group_inputs.specs.Handings.{Handing, FrameBytes, OwnInput, handing}

-- Messages are numbered from 1, places from 0. No list in memory reaches the place that is that of
-- the number 0.
abbrev pub position_of : ℕ → ℕ
position_of zero = 2 ^ 64
position_of (suc k) = k

-- An event with a frame is the arrival of a message as an input of the actor's own. The definitions
-- refuse each such event for the same reason, whatever the message; so one stands for all.
abbrev pub server_input : Handing → inputs.Input
server_input (FrameBytes bytes) = inputs.Arrives (BetweenServers 0 0 (Asks Take))
server_input (OwnInput input) = input

abbrev pub client_input : ClientInput → agents.Input
client_input (client_inputs.Frame bytes) = agents.Arrives 0 (Listing 0 [])
client_input (client_inputs.Register server) = agents.RegisterAt server
client_input (client_inputs.Ping server) = agents.Ping server
client_input (client_inputs.Pull server) = agents.PullFrom server
client_input (client_inputs.End id ok) = agents.End id ok
client_input client_inputs.Crash = agents.Crash
client_input client_inputs.Restart = agents.Restart

abbrev pub group_event : GroupEvent → Event
group_event (events.Deliver k) = Deliver (position_of k)
group_event (events.Server server input) = AtServer server (server_input (handing input.value))
group_event (events.Client client input) = AtClient client (client_input input.value)

abbrev pub group_events : List GroupEvent → List Event
group_events = map group_event

-- The same event: one more with the same input, also where that is a frame, byte for byte.
abbrev pub IsSameEvent : GroupEvent → GroupEvent → Type 0
IsSameEvent (events.Deliver k) (events.Deliver again) = again ≡ k
IsSameEvent (events.Server server input) (events.Server again copy) = (again ≡ server) × (copy.value ≡ input.value)
IsSameEvent (events.Client client input) (events.Client again copy) = (again ≡ client) × (copy.value ≡ input.value)
IsSameEvent event again = ⊥

-- it is an input of its actor's own
abbrev pub HasInput : Event → Type 0
HasInput (Deliver place) = ⊥
HasInput (AtServer server input) = Unit {0}
HasInput (AtClient client input) = Unit {0}
