use Rattle.client_node.proofs.Handed.{handed_so}
use Rattle.client_node.proofs.handing.hand.Goals as goal

pub returns : goal.returns
returns c =
    handed_so c.args.agent.now c.args.input c.hand_client.new.client c.args.frames.now c.hand_client.new.frames c.hand_client.result c.outcome.result
    c.hand_client.ensures.answers c.hand_client.ensures.grows c.outcome.ensures
