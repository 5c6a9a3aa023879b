use Rattle.std.proofs.Common.{refl, sym, subst, slice_get, slice_set}
use Rattle.rows.specs.declared.actor.Actor.TheVariants as actors
use Rattle.group_model.specs.Worlds.{Deliver}
use Rattle.group_inputs.specs.declared.client_input.ClientInput.TheVariants as client_inputs
use Rattle.server.specs.SentBytes.{bytes_of}
use Rattle.group_inputs.specs.Events.{position_of}
use Rattle.world.specs.GroupView.{GroupView, IsSentTo}
use Rattle.world.specs.Inner.GroupParts.{GroupStepped}
use Rattle.world.proofs.GroupDeliveries.{sent_to_client}
use Rattle.world.proofs.GroupClients.{client_moved}
use Rattle.world.proofs.group.world.World.deliver_to_client.Goals as goal

pub invariant_of-self : goal.invariant_of-self
invariant_of-self c =
    let i = c.self.inside in
    let e = Deliver (position_of c.args.k) in
    let view = c.index_mut-client.result.now in
    let given = client_inputs.Frame (bytes_of (slice_get i.history.outbox.frames (position_of c.args.k))) in
    let after = c.deliver_to_client.new.client in
    let h = c.deliver_to_client.new.self in
    let old : GroupView = record { servers = i.servers.items; clients = i.clients.items; outbox = i.history.outbox; trace = i.history.trace; chain = i.history.chain } in
    let new : GroupView = record { servers = i.servers.items; clients = slice_set i.clients.items c.position_of_client.result after; outbox = h.outbox; trace = h.trace; chain = h.chain } in
    let sent = subst (λ (x : GroupView). IsSentTo x.outbox.frames (position_of c.args.k) (actors.Client c.args.me)) (sym c.self.view_is) c.requires.sent in
    let r =
    client_moved old c.args.self.now e c.args.me c.position_of_client.result view given c.self.view_is c.self.invariant c.position_of_client.ensures c.requires.member c.index_mut-client.ensures.value tt
    c.requires.awake (λ w st k. sent_to_client c.frames_are_whole.ensures.again view i.history.outbox.frames (position_of c.args.k) w c.args.me st.sent sent k.number k.size k.at) c.limits_are_kept.ensures c.senders_are_members.ensures new after refl refl c.deliver_to_client.ensures.same c.deliver_to_client.result
    c.deliver_to_client.ensures.done in
    r.world

pub returns : goal.returns
returns c =
    let i = c.self.inside in
    let e = Deliver (position_of c.args.k) in
    let view = c.index_mut-client.result.now in
    let given = client_inputs.Frame (bytes_of (slice_get i.history.outbox.frames (position_of c.args.k))) in
    let after = c.deliver_to_client.new.client in
    let h = c.deliver_to_client.new.self in
    let old : GroupView = record { servers = i.servers.items; clients = i.clients.items; outbox = i.history.outbox; trace = i.history.trace; chain = i.history.chain } in
    let new : GroupView = record { servers = i.servers.items; clients = slice_set i.clients.items c.position_of_client.result after; outbox = h.outbox; trace = h.trace; chain = h.chain } in
    let sent = subst (λ (x : GroupView). IsSentTo x.outbox.frames (position_of c.args.k) (actors.Client c.args.me)) (sym c.self.view_is) c.requires.sent in
    let r =
    client_moved old c.args.self.now e c.args.me c.position_of_client.result view given c.self.view_is c.self.invariant c.position_of_client.ensures c.requires.member c.index_mut-client.ensures.value tt
    c.requires.awake (λ w st k. sent_to_client c.frames_are_whole.ensures.again view i.history.outbox.frames (position_of c.args.k) w c.args.me st.sent sent k.number k.size k.at) c.limits_are_kept.ensures c.senders_are_members.ensures new after refl refl c.deliver_to_client.ensures.same c.deliver_to_client.result
    c.deliver_to_client.ensures.done in
    subst (λ (x : GroupView). GroupStepped x e c.deliver_to_client.result new) c.self.view_is r.stepped
