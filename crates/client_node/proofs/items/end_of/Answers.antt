use Rattle.std.proofs.Common.{◌∙◌, ap, sym}
use Rattle.group_model.specs.Worlds.{AtClient}
use Rattle.group_inputs.specs.Events.{client_input, group_event}
use Rattle.client_node.proofs.ReadItems.{anothers_end, no_clients, own_end}
use Rattle.client_node.proofs.items.end_of.Goals as goal

pub returns-then-number : goal.returns-then-number
returns-then-number c =
    let event = group_event c.args.event.now in
    let input = client_input c.as_ref.result.now in
    own_end c.args.me c.in-Client.client event input c.end_in.result (ap group_event c.in-Client.is ∙ ap (λ given. AtClient c.in-Client.client (client_input given)) (sym c.as_ref.ensures))
    (sym c.number.ensures.value ∙ c.if-number.true ∙ c.number-in-Client.ensures.value) c.end_in.ensures

pub returns-else-number : goal.returns-else-number
returns-else-number c =
    anothers_end c.args.me c.in-Client.client (group_event c.args.event.now) (client_input c.in-Client.input.value) (ap group_event c.in-Client.is)
    (λ same. c.if-number.false (c.number.ensures.value ∙ same ∙ sym c.number-in-Client.ensures.value))

pub returns-in-Server : goal.returns-in-Server
returns-in-Server c = no_clients c.args.me (ap group_event c.in-Server.is) tt

pub returns-in-Deliver : goal.returns-in-Deliver
returns-in-Deliver c = no_clients c.args.me (ap group_event c.in-Deliver.is) tt
