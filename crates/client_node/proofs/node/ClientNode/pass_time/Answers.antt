use Rattle.std.proofs.Common.{◌∙◌}
use Rattle.client_node.proofs.Turning.{time_went}
use Rattle.client_node.proofs.node.ClientNode.pass_time.Goals as goal

pub returns : goal.returns
returns c =
    time_went c.args.item.now c.args.self.now c.self.inside.agent c.self.inside.timers c.self.view_is c.ask_each.new.agent c.args.frames.now c.ask_each.new.frames
    c.args.ms c.as_slice-2.result.now c.pass.new.self c.requires (c.as_slice-2.ensures.value ∙ c.in_ok-due.ensures.due) c.in_ok-due.ensures.later c.in_ok-ask_each.ensures
