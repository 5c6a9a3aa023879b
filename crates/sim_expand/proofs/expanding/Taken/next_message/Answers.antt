use Rattle.sim_expand.proofs.Delivering.{message_moves}
use Rattle.sim_expand.proofs.expanding.Taken.next_message.Goals as goal

pub returns : goal.returns
returns c = message_moves c.take_message.result c.args.self.now c.take_message.new.self c.requires.stands c.requires.behind c.take_message.ensures.some c.take_message.ensures.left
