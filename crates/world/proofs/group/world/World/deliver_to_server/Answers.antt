use Rattle.std.proofs.Common.{refl, sym, ap, subst, slice_get, slice_set}
use Rattle.group_model.specs.Worlds.{Deliver}
use Rattle.group_inputs.specs.Handings.{FrameBytes}
use Rattle.server.specs.SentBytes.{bytes_of}
use Rattle.group_inputs.specs.Events.{position_of}
use Rattle.world.specs.GroupView.{GroupView}
use Rattle.world.specs.GroupSteps.{IsGroupAwake}
use Rattle.world.proofs.GroupServers.{GroupActed, sent_scene, server_acted}
use Rattle.world.proofs.group.world.World.deliver_to_server.Goals as goal

pub invariant_of-self : goal.invariant_of-self
invariant_of-self c =
    let i = c.self.inside in
    let k = position_of c.args.k in
    let h = FrameBytes (bytes_of (slice_get i.history.outbox.frames k)) in
    let e = Deliver k in
    let view = c.index_mut-server.result.now in
    let old : GroupView = record { servers = i.servers.items; clients = i.clients.items; outbox = i.history.outbox; trace = i.history.trace; chain = i.history.chain } in
    let past = c.deliver_to_server.new.self in
    let after = c.deliver_to_server.new.server in
    let new : GroupView = record { servers = slice_set i.servers.items c.position.result after; clients = i.clients.items; outbox = past.outbox; trace = past.trace; chain = past.chain } in
    let scene = sent_scene old c.args.self.now c.args.me c.position.result view c.self.view_is c.self.invariant c.position.ensures.value c.requires.member c.index_mut-server.ensures.value c.frames_are_whole.ensures.again k c.requires.sent in
    let r = server_acted old e c.args.me view h scene c.limits_are_kept.ensures c.senders_are_members.ensures (subst (λ (x : GroupView). IsGroupAwake x e) (sym c.self.view_is) c.requires.awake) new after
    (ap (λ k. slice_set i.servers.items k after) c.position.ensures.value) refl c.deliver_to_server.ensures.same c.deliver_to_server.result c.deliver_to_server.ensures.done in
    r.world

pub returns : goal.returns
returns c =
    let i = c.self.inside in
    let k = position_of c.args.k in
    let h = FrameBytes (bytes_of (slice_get i.history.outbox.frames k)) in
    let e = Deliver k in
    let view = c.index_mut-server.result.now in
    let old : GroupView = record { servers = i.servers.items; clients = i.clients.items; outbox = i.history.outbox; trace = i.history.trace; chain = i.history.chain } in
    let past = c.deliver_to_server.new.self in
    let after = c.deliver_to_server.new.server in
    let new : GroupView = record { servers = slice_set i.servers.items c.position.result after; clients = i.clients.items; outbox = past.outbox; trace = past.trace; chain = past.chain } in
    let scene = sent_scene old c.args.self.now c.args.me c.position.result view c.self.view_is c.self.invariant c.position.ensures.value c.requires.member c.index_mut-server.ensures.value c.frames_are_whole.ensures.again k c.requires.sent in
    let r = server_acted old e c.args.me view h scene c.limits_are_kept.ensures c.senders_are_members.ensures (subst (λ (x : GroupView). IsGroupAwake x e) (sym c.self.view_is) c.requires.awake) new after
    (ap (λ k. slice_set i.servers.items k after) c.position.ensures.value) refl c.deliver_to_server.ensures.same c.deliver_to_server.result c.deliver_to_server.ensures.done in
    let q = subst (λ (x : GroupView). GroupActed x e c.deliver_to_server.result new) c.self.view_is r in
    q.stepped
