use Rattle.std.proofs.Common.{sym, subst}
use Rattle.world.specs.GroupView.{GroupView, GroupInvariant}
use Rattle.world.specs.Inner.GroupParts.{GroupHistoryView}
use Rattle.world.proofs.GroupClients.{fetched_reached}
use Rattle.world.proofs.group.world.World.take_work.Goals as goal

pub invariant_of-self : goal.invariant_of-self
invariant_of-self c =
    let i = c.self.inside in
    let old : GroupView = record { servers = i.servers.items; clients = i.clients.items; outbox = i.history.outbox; trace = i.history.trace; chain = i.history.chain } in
    subst (λ (h : GroupHistoryView). GroupInvariant (record { servers = i.servers.items; clients = i.clients.items; outbox = h.outbox; trace = h.trace; chain = h.chain })) (sym c.take_work.ensures.rest)
    (fetched_reached old c.self.invariant)
