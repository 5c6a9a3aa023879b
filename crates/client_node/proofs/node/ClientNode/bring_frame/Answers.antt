use Rattle.client_node.proofs.Turning.{frame_went}
use Rattle.client_node.proofs.node.ClientNode.bring_frame.Goals as goal

pub returns : goal.returns
returns c =
    frame_went c.args.item.now c.args.self.now c.self.inside.agent c.self.inside.timers c.self.view_is c.bring.new.agent c.args.frames.now c.bring.new.frames
    c.in_ok-told.told c.requires c.in_ok-told.ensures
