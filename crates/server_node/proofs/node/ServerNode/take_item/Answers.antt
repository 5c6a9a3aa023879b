use Rattle.server_node.proofs.node.ServerNode.take_item.Goals as goal

pub returns : goal.returns
returns c = c.in_ok-take_question.ensures c.args.change.now c.args.frames.now.items
