use Rattle.std.proofs.Common.{refl, subst}
use Rattle.group_inputs.specs.Handings.{FrameBytes}
use Rattle.server_node.specs.Inner.Going.{HandedBy}
use Rattle.server_node.proofs.Serving.{frame_refused, frame_taken}
use Rattle.server_node.proofs.node.ServerNode.bring_frame.Goals as goal

pub returns-in_ok-put_line-in-Some : goal.returns-in_ok-put_line-in-Some
returns-in_ok-put_line-in-Some c =
    let i = c.self.inside in
    let item = c.args.item.now in
    frame_refused item c.args.self.now i.server i.workers i.timers i.asked.items c.self.view_is c.bring.new.server c.bring.new.workers c.args.change.now c.bring.new.change c.in_ok-told.ensures.change
    c.args.frames.now.items c.bring.new.frames.items c.args.answers.now.items c.put_line.new.outs.items c.in-Some.cause c.requires
    (subst (HandedBy i.server (FrameBytes item) c.bring.new.server i.workers c.bring.new.workers c.args.frames.now.items c.bring.new.frames.items) c.in-Some.is c.in_ok-told.ensures.hands) c.in_ok-put_line-in-Some.ensures

pub returns-in-None : goal.returns-in-None
returns-in-None c =
    let i = c.self.inside in
    let item = c.args.item.now in
    frame_taken item c.args.self.now i.server i.workers i.timers i.asked.items c.self.view_is c.bring.new.server c.bring.new.workers c.args.change.now c.bring.new.change c.in_ok-told.ensures.change
    c.args.frames.now.items c.bring.new.frames.items c.args.answers.now.items c.args.answers.now.items c.hear.new.timers c.requires
    (subst (HandedBy i.server (FrameBytes item) c.bring.new.server i.workers c.bring.new.workers c.args.frames.now.items c.bring.new.frames.items) c.in-None.is c.in_ok-told.ensures.hands) c.hear.ensures refl
