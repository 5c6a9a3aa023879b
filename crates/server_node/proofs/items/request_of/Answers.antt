use Rattle.std.proofs.Common.{◌∙◌, ◌+◌, ap, sym, arith}
use Rattle.group_model.specs.Worlds.{AtServer}
use Rattle.group_inputs.specs.Events.{group_event, server_input}
use Rattle.group_inputs.specs.Handings.{handing}
use Rattle.server_node.proofs.ReadItems.{anothers_request, no_servers, own_request}
use Rattle.server_node.proofs.items.request_of.Goals as goal

pub returns : goal.returns
returns c =
    let event = group_event c.args.event in
    let input = server_input (handing c.into_inner.result) in
    own_request c.args.me c.in-Server.server event input c.request_in.result (ap group_event c.in-Server.is ∙ ap (λ given. AtServer c.in-Server.server (server_input (handing given))) (sym c.into_inner.ensures))
    (omega (arith, c.number.ensures.value, c.if-number.false, c.number-2.ensures.value)) c.request_in.ensures

pub returns-then-number : goal.returns-then-number
returns-then-number c =
    anothers_request c.args.me c.in-Server.server (group_event c.args.event) (server_input (handing c.in-Server.input.value)) (ap group_event c.in-Server.is)
    (λ same. c.if-number.true (c.number.ensures.value ∙ ap (λ n. n + 1) same ∙ sym c.number-2.ensures.value))

pub returns-in_default : goal.returns-in_default
returns-in_default c = no_servers c.args.me c.args.event c.in_default.not-Server
