-- Whom a step names, and which of them a scenario's group lacks.
use Rattle.std.specs.Prelude.{◌+◌, ◌++◌, ℕ, Bool, nat_le, nat_lt, List, Option, Some, None, codes, decimal, length}
use Rattle.rows.specs.declared.request.OperatorRequest.{OperatorRequest}
use Rattle.rows.specs.declared.request.OperatorRequest.TheVariants.{Drain}
use Rattle.group_model.specs.Agents as agents
use Rattle.group_model.specs.Inputs as inputs
use Rattle.group_model.specs.Worlds.{Event, AtClient, AtServer}
use Rattle.sim_scenario.specs.declared.noting.Named.{Named}
use Rattle.sim_scenario.specs.declared.noting.Named.TheVariants.{Server, Client, Node}
use Rattle.sim_scenario.specs.declared.scenario.Scenario.{Scenario}
use Rattle.sim_scenario.specs.Steps.{Step, AnEvent, Work}

-- ---- whose step it is

abbrev pub event_taker : Event → Option Named
event_taker (AtServer server input) = Some (Server server)
event_taker (AtClient client input) = Some (Client client)
event_taker _ = None

abbrev pub step_taker : Step → Option Named
step_taker (AnEvent event) = event_taker event
step_taker (Work server) = Some (Server server)
step_taker _ = None

-- ---- whom it names besides: the server that is asked, or the node that expires or is drained

abbrev pub request_names : OperatorRequest → Option Named
request_names (Drain node force) = Some (Node node)
request_names _ = None

abbrev pub input_names : inputs.Input → Option Named
input_names (inputs.TakeFrom to) = Some (Server to)
input_names (inputs.SubmitTo to plan) = Some (Server to)
input_names (inputs.FinishAt to eval token outcome) = Some (Server to)
input_names (inputs.NackAt to eval token) = Some (Server to)
input_names (inputs.Request request) = request_names request
input_names (inputs.Expire node beats) = Some (Node node)
input_names (inputs.DrainTurn node) = Some (Node node)
input_names _ = None

abbrev pub client_input_names : agents.Input → Option Named
client_input_names (agents.RegisterAt server) = Some (Server server)
client_input_names (agents.Ping server) = Some (Server server)
client_input_names (agents.PullFrom server) = Some (Server server)
client_input_names _ = None

abbrev pub event_names : Event → Option Named
event_names (AtServer server input) = input_names input
event_names (AtClient client input) = client_input_names input
event_names _ = None

abbrev pub step_names : Step → Option Named
step_names (AnEvent event) = event_names event
step_names _ = None

-- ---- who is not there

-- servers are numbered from 0 here, clients and nodes from 1; each node has its client
abbrev pub is_absent : Scenario → Named → Bool
is_absent s (Server server) = nat_le s.settings.servers server
is_absent s (Client client) = nat_lt (length s.nodes.items) client
is_absent s (Node node) = nat_lt (length s.nodes.items) node

-- the kind and the number, which is that of text
abbrev pub named_text : Named → List ℕ
named_text (Server server) = codes "server " ++ decimal (server + 1)
named_text (Client client) = codes "client " ++ decimal client
named_text (Node node) = codes "node " ++ decimal node
