-- What was received of a server.
use Rattle.std.specs.Prelude.{◌≡◌, ℕ, Some, List}
use Rattle.rows.specs.declared.actor.Actor.TheVariants as actors
use Rattle.rows.specs.declared.command.Command.{Command}
use Rattle.wire.specs.Frames.{Frame}
use Rattle.fsm_model.specs.Words.{State}
use Rattle.fsm_model.specs.ClusterMachine.{cluster_spec}
use Rattle.group_model.specs.Messages.{ClientResponse, ToClient}
use Rattle.group_model.specs.Agents.{Arrives}
use Rattle.group_frames.specs.GroupFrames.{IsServiceFrame, service_between}
use Rattle.client_agent.specs.declared.listing.Received.{Received}
use Rattle.client_agent.specs.AgentView.{AgentView}
use Rattle.client_agent.specs.Steps.{AgentSteps}

-- this response to the client of this number, from this server
abbrev pub Responds : ℕ → Received → ℕ → ClientResponse → Type 0
Responds me received from response = service_between {S = State} {C = Command} (actors.Server received.from) (actors.Client me) received.body ≡ Some (ToClient from me response)

-- it is what the frame says, if that is anything to this client
abbrev pub IsReceived : ℕ → List ℕ → Received → Type 0
IsReceived me bytes received =
    (from : ℕ) (response : ClientResponse) →
    IsServiceFrame cluster_spec bytes (ToClient from me response) → Responds me received from response

-- it was taken, whatever it is
abbrev pub TakesReceived : AgentView → Received → AgentView → List Frame → List Frame → Type 0
TakesReceived old received new before after =
    (from : ℕ) (response : ClientResponse) → Responds old.client.node.number received from response →
    AgentSteps old (Arrives from response) new before after
