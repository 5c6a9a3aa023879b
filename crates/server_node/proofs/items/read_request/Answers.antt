use Rattle.std.proofs.Common.{subst}
use Rattle.group_model.specs.Inputs.{Request}
use Rattle.group_model.specs.Worlds.{AtServer}
use Rattle.server_node.specs.Inner.Lines.{IsReadAs}
use Rattle.server_node.proofs.ReadItems.{request_read}
use Rattle.server_node.proofs.items.read_request.Goals as goal

pub returns-in-Some : goal.returns-in-Some
returns-in-Some c = request_read c.args.me c.args.line.now c.in-Some.event c.request_of.result (subst (IsReadAs c.args.line.now) c.in-Some.is c.in_ok-event.ensures) c.request_of.ensures

pub returns-in-None : goal.returns-in-None
returns-in-None c = λ request is. (subst (IsReadAs c.args.line.now) c.in-None.is c.in_ok-event.ensures) (AtServer c.args.me (Request request)) is
