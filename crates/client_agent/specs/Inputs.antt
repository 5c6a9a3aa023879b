-- What is handed to a client.
use Rattle.std.specs.Prelude.{◌≡◌, ℕ}
use Rattle.fsm_model.specs.ClusterMachine.{cluster_spec}
use Rattle.group_model.specs.Messages.{ClientResponse, ToClient}
use Rattle.group_model.specs.Agents.{Input, Arrives, RegisterAt, Ping, PullFrom, End, Crash, Restart}
use Rattle.group_frames.specs.GroupFrames.{IsServiceFrame}
use Rattle.group_inputs.specs.declared.client_input.ClientInput.{ClientInput}
use Rattle.group_inputs.specs.declared.client_input.ClientInput.TheVariants as inputs

-- an input of the definitions that it is to the client of this number: bytes are the arrival of
-- each response to it whose frame they are
abbrev pub AgentReads : ℕ → ClientInput → Input → Type 0
AgentReads me (inputs.Frame bytes) input =
    (from : ℕ) × (response : ClientResponse)
    × IsServiceFrame cluster_spec bytes (ToClient from me response)
    × (input ≡ Arrives from response)
AgentReads me (inputs.Register server) input = input ≡ RegisterAt server
AgentReads me (inputs.Ping server) input = input ≡ Ping server
AgentReads me (inputs.Pull server) input = input ≡ PullFrom server
AgentReads me (inputs.End id ok) input = input ≡ End id ok
AgentReads me inputs.Crash input = input ≡ Crash
AgentReads me inputs.Restart input = input ≡ Restart
