use Rattle.std.proofs.Common.{◌∷◌, [], length, subst, sym}
use Rattle.std.specs.Prelude.{codes}
use Rattle.rows.specs.Requests.{command_of}
use Rattle.raft_core.specs.Tickets.{IsTicket}
use Rattle.group_model.specs.Inputs.{Request}
use Rattle.group_inputs.specs.Handings.{OwnInput}
use Rattle.server_node.specs.Answers.{answer, placed_text}
use Rattle.server_node.specs.Inner.Going.{HandedBy, Puts}
use Rattle.server_node.specs.Inner.Outcomes.{StandsWhereTaken}
use Rattle.server_node.specs.Items.{IsLine}
use Rattle.server_node.proofs.Serving.{none_by, request_refused, request_taken}
use Rattle.server_node.proofs.node.ServerNode.request.Goals as goal

pub returns-in-Some : goal.returns-in-Some
returns-in-Some c =
    let item = c.args.item.now in
    let line = c.args.line.now in
    let i = c.self.inside in
    request_refused item c.args.self.now i.server i.workers i.timers i.asked.items c.self.view_is c.hand.new.server c.hand.new.workers c.args.change.now c.hand.new.change c.in_ok-told.ensures.change
    c.args.frames.now.items c.hand.new.frames.items c.args.answers.now.items c.refuse.new.answers.items line c.args.request c.requires.asks c.args.id c.in-Some.cause c.requires.at
    (subst (HandedBy i.server (OwnInput (Request c.args.request)) c.hand.new.server i.workers c.hand.new.workers c.args.frames.now.items c.hand.new.frames.items) c.in-Some.is c.in_ok-told.ensures.hands)
    c.in_ok-refuse.ensures

pub returns : goal.returns
returns c =
    let item = c.args.item.now in
    let line = c.args.line.now in
    let i = c.self.inside in
    let request = c.args.request in
    let asked = c.in_ok-asked.asked in
    let got = c.in_ok-asked.ensures in
    let last = subst (StandsWhereTaken (OwnInput (Request request)) c.hand.new.server) (none_by c.in_ok-told.told c.in_default.not-Some) c.in_ok-told.ensures.stands in
    request_taken item c.args.self.now i.server i.workers i.timers i.asked.items c.self.view_is c.hand.new.server c.hand.new.workers c.args.change.now c.hand.new.change c.in_ok-told.ensures.change
    c.args.frames.now.items c.hand.new.frames.items c.args.answers.now.items c.tell_ticket.new.answers.items line request c.requires.asks asked (subst (λ n. IsLine item n line) (sym got.0) c.requires.at)
    (subst (HandedBy i.server (OwnInput (Request request)) c.hand.new.server i.workers c.hand.new.workers c.args.frames.now.items c.hand.new.frames.items) (none_by c.in_ok-told.told c.in_default.not-Some) c.in_ok-told.ensures.hands)
    (λ s r. subst (λ n. IsTicket s.raft (command_of request) n asked.term) (sym (got.1 s r).0) (subst (λ n. IsTicket s.raft (command_of request) (length s.raft.log) n) (sym (got.1 s r).1) (last s r)))
    (subst (λ n. Puts c.args.answers.now.items c.tell_ticket.new.answers.items (answer n (placed_text (codes "ticket") asked.index asked.term) ∷ [])) (sym got.0) got.2)
