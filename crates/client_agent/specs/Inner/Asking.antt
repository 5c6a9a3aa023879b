-- What an agent asks of servers when it is to.
use Rattle.std.specs.Prelude.{ℕ}
use Rattle.rows.specs.declared.node.NodeSpec.{NodeSpec}
use Rattle.group_model.specs.Messages.{ClientRequest, Register, Heartbeat, Pull}
use Rattle.client_agent.specs.declared.asking.Asked.{Asked}
use Rattle.client_agent.specs.declared.asking.Asked.TheVariants as asked
use Rattle.group_inputs.specs.declared.client_input.ClientInput.{ClientInput}
use Rattle.group_inputs.specs.declared.client_input.ClientInput.TheVariants as inputs

abbrev pub request_of : NodeSpec → Asked → ClientRequest
request_of node asked.Registration = Register node.class node.size
request_of node asked.Heartbeat = Heartbeat
request_of node asked.Listing = Pull

-- what is handed in to ask it of a server
abbrev pub handing_of : Asked → ℕ → ClientInput
handing_of asked.Registration server = inputs.Register server
handing_of asked.Heartbeat server = inputs.Ping server
handing_of asked.Listing server = inputs.Pull server
