use Rattle.std.proofs.Common.{◌∙◌, sym}
use Rattle.server_node.proofs.HandedIn.{waits_other, waits_same}
use Rattle.server_node.proofs.handing.forget_outdated.Goals as goal

pub returns-then-get : goal.returns-then-get
returns-then-get c =
    sym (waits_same c.args.before c.args.server.now.raft.server.term c.args.workers.now
    (sym c.get-2.ensures.value ∙ sym c.if-get.true ∙ c.get.ensures.value ∙ c.term.ensures.shown))

pub returns : goal.returns
returns c =
    c.forget.ensures
    ∙ sym (waits_other c.args.before c.args.server.now.raft.server.term c.args.workers.now
    (λ same. c.if-get.false (c.get.ensures.value ∙ c.term.ensures.shown ∙ sym same ∙ sym c.get-2.ensures.value)))
