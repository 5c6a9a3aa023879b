use Rattle.std.proofs.Common.{subst, sym}
use Rattle.client_node.specs.Items.{IsEnd}
use Rattle.client_node.proofs.Turning.{IsEndIn, ended_went, unread_went}
use Rattle.client_node.proofs.node.ClientNode.take_end.Goals as goal

pub returns-in-Some : goal.returns-in-Some
returns-in-Some c =
    let item = c.args.item.now in
    let e = c.in-Some.ended in
    let read = subst (IsEndIn c.me.result item) c.in-Some.is c.in_ok-ended.ensures in
    ended_went item c.args.self.now c.self.inside.agent c.self.inside.timers c.self.view_is c.hand.new.agent c.args.frames.now c.hand.new.frames
    e.0 e.1 c.hand.result (subst (λ me. IsEnd me item e.0 e.1) c.me.ensures read) c.hand.ensures

pub returns-in-None : goal.returns-in-None
returns-in-None c =
    let item = c.args.item.now in
    let read = subst (IsEndIn c.me.result item) c.in-None.is c.in_ok-ended.ensures in
    unread_went item c.args.self.now c.args.frames.now c.requires.no_frame c.requires.no_time
    (λ id well is. read id well (subst (λ me. IsEnd me item id well) (sym c.me.ensures) is))
