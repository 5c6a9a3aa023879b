use Rattle.std.proofs.Common.{refl, sym, ap, subst, slice_set}
use Rattle.group_model.specs.Worlds.{AtServer}
use Rattle.group_inputs.specs.Handings.{handing}
use Rattle.group_inputs.specs.Events.{server_input}
use Rattle.world.specs.GroupView.{GroupView}
use Rattle.world.specs.GroupSteps.{IsGroupAwake}
use Rattle.world.proofs.GroupServers.{GroupActed, own_scene, server_acted}
use Rattle.world.proofs.group.world.World.hand_server.Goals as goal

pub invariant_of-self : goal.invariant_of-self
invariant_of-self c =
    let i = c.self.inside in
    let h = handing c.args.input.value in
    let e = AtServer c.args.me (server_input h) in
    let view = c.index_mut-server.result.now in
    let old : GroupView = record { servers = i.servers.items; clients = i.clients.items; outbox = i.history.outbox; trace = i.history.trace; chain = i.history.chain } in
    let past = c.hand_server.new.self in
    let after = c.hand_server.new.server in
    let new : GroupView = record { servers = slice_set i.servers.items c.position.result after; clients = i.clients.items; outbox = past.outbox; trace = past.trace; chain = past.chain } in
    let scene = own_scene old c.args.self.now c.args.me c.position.result view c.self.view_is c.self.invariant c.position.ensures.value c.requires.member c.index_mut-server.ensures.value c.args.input.value (rw c.as_ref.ensures at c.ranges-2.ensures) c.requires.own in
    let r = server_acted old e c.args.me view h scene c.limits_are_kept.ensures c.senders_are_members.ensures (subst (λ (x : GroupView). IsGroupAwake x e) (sym c.self.view_is) c.requires.awake) new after
    (ap (λ k. slice_set i.servers.items k after) c.position.ensures.value) refl c.hand_server.ensures.same c.hand_server.result c.hand_server.ensures.done in
    r.world

pub returns : goal.returns
returns c =
    let i = c.self.inside in
    let h = handing c.args.input.value in
    let e = AtServer c.args.me (server_input h) in
    let view = c.index_mut-server.result.now in
    let old : GroupView = record { servers = i.servers.items; clients = i.clients.items; outbox = i.history.outbox; trace = i.history.trace; chain = i.history.chain } in
    let past = c.hand_server.new.self in
    let after = c.hand_server.new.server in
    let new : GroupView = record { servers = slice_set i.servers.items c.position.result after; clients = i.clients.items; outbox = past.outbox; trace = past.trace; chain = past.chain } in
    let scene = own_scene old c.args.self.now c.args.me c.position.result view c.self.view_is c.self.invariant c.position.ensures.value c.requires.member c.index_mut-server.ensures.value c.args.input.value (rw c.as_ref.ensures at c.ranges-2.ensures) c.requires.own in
    let r = server_acted old e c.args.me view h scene c.limits_are_kept.ensures c.senders_are_members.ensures (subst (λ (x : GroupView). IsGroupAwake x e) (sym c.self.view_is) c.requires.awake) new after
    (ap (λ k. slice_set i.servers.items k after) c.position.ensures.value) refl c.hand_server.ensures.same c.hand_server.result c.hand_server.ensures.done in
    let q = subst (λ (x : GroupView). GroupActed x e c.hand_server.result new) c.self.view_is r in
    q.stepped
