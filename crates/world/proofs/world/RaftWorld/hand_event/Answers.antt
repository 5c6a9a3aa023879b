use Rattle.std.proofs.Common.{ap, subst, slice_set}
use Rattle.world.specs.Events.{world_event}
use Rattle.world.specs.WorldView.{WorldView}
use Rattle.world.proofs.Acts.{Acted, acted, at_actor, is_for, in_any_case}
use Rattle.world.proofs.world.RaftWorld.hand_event.Goals as goal

pub hand_event-requires : goal.hand_event-requires
hand_event-requires g c =
    let m = g.M.Machine.spec in
    let i = c.self.inside in
    let e = world_event c.args.event in
    let h = c.index_mut-raft.result.now in
    let old : WorldView g.row.M.Denot g.row.M-Command.Denot = record { servers = i.servers.items; sent = i.history.sent; trace = i.history.trace; chain = i.history.chain } in
    let a = at_actor m old c.args.self.now e c.args.server c.position.result h c.self.view_is c.self.invariant c.position.ensures.value c.requires.member c.index_mut-raft.ensures.value c.requires.actor in
    is_for m old e c.args.server h a (rw (← c.self.view_is) at c.requires.sent)

pub invariant_of-self : goal.invariant_of-self
invariant_of-self g c =
    let m = g.M.Machine.spec in
    let i = c.self.inside in
    let e = world_event c.args.event in
    let h = c.index_mut-raft.result.now in
    let old : WorldView g.row.M.Denot g.row.M-Command.Denot = record { servers = i.servers.items; sent = i.history.sent; trace = i.history.trace; chain = i.history.chain } in
    let a = at_actor m old c.args.self.now e c.args.server c.position.result h c.self.view_is c.self.invariant c.position.ensures.value c.requires.member c.index_mut-raft.ensures.value c.requires.actor in
    let new : WorldView g.row.M.Denot g.row.M-Command.Denot = record { servers = slice_set i.servers.items c.position.result c.hand_event.new.raft; sent = c.hand_event.new.self.sent; trace = c.hand_event.new.self.trace; chain = c.hand_event.new.self.chain } in
    let r = acted m old e c.args.server h a c.hand_event.new.raft new (ap (λ k. slice_set i.servers.items k c.hand_event.new.raft) c.position.ensures.value) c.hand_event.ensures.same
    c.frames_are_whole.ensures.again (λ n events past w r. c.within_limits.ensures.messages n events past w r) c.hand_event.result c.hand_event.ensures.done in
    r.world

pub returns : goal.returns
returns g c =
    let m = g.M.Machine.spec in
    let i = c.self.inside in
    let e = world_event c.args.event in
    let h = c.index_mut-raft.result.now in
    let old : WorldView g.row.M.Denot g.row.M-Command.Denot = record { servers = i.servers.items; sent = i.history.sent; trace = i.history.trace; chain = i.history.chain } in
    let a = at_actor m old c.args.self.now e c.args.server c.position.result h c.self.view_is c.self.invariant c.position.ensures.value c.requires.member c.index_mut-raft.ensures.value c.requires.actor in
    let new : WorldView g.row.M.Denot g.row.M-Command.Denot = record { servers = slice_set i.servers.items c.position.result c.hand_event.new.raft; sent = c.hand_event.new.self.sent; trace = c.hand_event.new.self.trace; chain = c.hand_event.new.self.chain } in
    let r = acted m old e c.args.server h a c.hand_event.new.raft new (ap (λ k. slice_set i.servers.items k c.hand_event.new.raft) c.position.ensures.value) c.hand_event.ensures.same
    c.frames_are_whole.ensures.again (λ n events past w r. c.within_limits.ensures.messages n events past w r) c.hand_event.result c.hand_event.ensures.done in
    let q = subst (λ (x : WorldView g.row.M.Denot g.row.M-Command.Denot). Acted m x e c.hand_event.result new) c.self.view_is r in
    record { ok = q.ok; err = q.err; cause = q.cause; memory = in_any_case c.hand_event.result c.requires.awake }
