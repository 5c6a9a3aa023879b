use Rattle.std.proofs.Common.{refl, subst, slice_set}
use Rattle.group_model.specs.Worlds.{AtClient}
use Rattle.group_inputs.specs.Events.{client_input}
use Rattle.world.specs.GroupView.{GroupView}
use Rattle.world.specs.Inner.GroupParts.{GroupStepped}
use Rattle.world.proofs.GroupOwn.{own_client}
use Rattle.world.proofs.GroupClients.{client_moved}
use Rattle.world.proofs.group.world.World.hand_client.Goals as goal

pub invariant_of-self : goal.invariant_of-self
invariant_of-self c =
    let i = c.self.inside in
    let e = AtClient c.args.me (client_input c.args.input.value) in
    let view = c.index_mut-client.result.now in
    let after = c.hand_client.new.client in
    let h = c.hand_client.new.self in
    let old : GroupView = record { servers = i.servers.items; clients = i.clients.items; outbox = i.history.outbox; trace = i.history.trace; chain = i.history.chain } in
    let new : GroupView = record { servers = i.servers.items; clients = slice_set i.clients.items c.position_of_client.result after; outbox = h.outbox; trace = h.trace; chain = h.chain } in
    let r =
    client_moved old c.args.self.now e c.args.me c.position_of_client.result view c.args.input.value c.self.view_is c.self.invariant c.position_of_client.ensures c.requires.member c.index_mut-client.ensures.value tt
    c.requires.awake (λ w st k. own_client view c.args.input.value w c.args.me k.at k.size c.requires.own) c.limits_are_kept.ensures c.senders_are_members.ensures new after refl refl c.hand_client.ensures.same c.hand_client.result
    c.hand_client.ensures.done in
    r.world

pub returns : goal.returns
returns c =
    let i = c.self.inside in
    let e = AtClient c.args.me (client_input c.args.input.value) in
    let view = c.index_mut-client.result.now in
    let after = c.hand_client.new.client in
    let h = c.hand_client.new.self in
    let old : GroupView = record { servers = i.servers.items; clients = i.clients.items; outbox = i.history.outbox; trace = i.history.trace; chain = i.history.chain } in
    let new : GroupView = record { servers = i.servers.items; clients = slice_set i.clients.items c.position_of_client.result after; outbox = h.outbox; trace = h.trace; chain = h.chain } in
    let r =
    client_moved old c.args.self.now e c.args.me c.position_of_client.result view c.args.input.value c.self.view_is c.self.invariant c.position_of_client.ensures c.requires.member c.index_mut-client.ensures.value tt
    c.requires.awake (λ w st k. own_client view c.args.input.value w c.args.me k.at k.size c.requires.own) c.limits_are_kept.ensures c.senders_are_members.ensures new after refl refl c.hand_client.ensures.same c.hand_client.result
    c.hand_client.ensures.done in
    subst (λ (x : GroupView). GroupStepped x e c.hand_client.result new) c.self.view_is r.stepped
