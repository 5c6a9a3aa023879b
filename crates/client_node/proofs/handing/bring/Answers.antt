use Rattle.group_inputs.specs.declared.client_input.ClientInput.TheVariants as inputs
use Rattle.client_node.proofs.Handed.{handed_so}
use Rattle.client_node.proofs.handing.bring.Goals as goal

pub returns : goal.returns
returns c =
    handed_so c.args.agent.now (inputs.Frame c.args.frame.now) c.deliver_to_client.new.client c.args.frames.now c.deliver_to_client.new.frames c.deliver_to_client.result c.outcome.result
    c.deliver_to_client.ensures.answers c.deliver_to_client.ensures.grows c.outcome.ensures
