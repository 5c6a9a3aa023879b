-- What a client does with what is handed in.
use Rattle.std.specs.Prelude.{◌≡◌, Ok, List, map}
use Rattle.wire.specs.Frames.{Frame}
use Rattle.fsm_model.specs.ClusterMachine.{cluster_spec}
use Rattle.group_model.specs.Messages.{Service}
use Rattle.group_model.specs.Agents.{Input, AgentTurn, step}
use Rattle.group_frames.specs.GroupFrames.{SendsGroup}
use Rattle.group_inputs.specs.declared.client_input.ClientInput.{ClientInput}
use Rattle.client_agent.specs.AgentView.{AgentView}
use Rattle.client_agent.specs.Inputs.{AgentReads}

-- the input leads from the one client to the other, and its messages were sent
pub record AgentSteps (old : AgentView) (input : Input) (new : AgentView) (before after : List Frame) : Type 0 where
  pub turn : AgentTurn
  pub step : step old.size old.client input ≡ Ok turn
  pub client : new.client ≡ turn.client
  pub sent : SendsGroup cluster_spec before after (map Service turn.sent)

-- so for each input that what is handed in may be
abbrev pub AgentTakes : AgentView → ClientInput → AgentView → List Frame → List Frame → Type 0
AgentTakes old given new before after =
    (input : Input) → AgentReads old.client.node.number given input →
    AgentSteps old input new before after
