use Rattle.std.proofs.Common.{◌≡◌, map, take, sym, ◌∙◌, subst}
use Rattle.world.specs.GroupView.{nodes_of, renumbered}
use Rattle.cluster.specs.Closing.{ClosesTo, ShowsAtLast}
use Rattle.cluster.specs.Inner.Closed.{named_in}
use Rattle.cluster.specs.Inner.Joined.{HasClients, AreNodesOf}
use Rattle.cluster.specs.Inner.Runs.{GroupLeads, RunsToLast}
use Rattle.cluster.proofs.Loops.{ok_and, ok_both, ok_together}
use Rattle.cells.proofs.Members.{size_is}
use Rattle.cluster.proofs.Joins.{stands_at_last, clients_are_there, first_of_given, group_leads, closes_to, shows_at_last}
use Rattle.cluster.proofs.joining.close.Goals as goal

pub nodes_among-requires-clause-there : goal.nodes_among-requires-clause-there
nodes_among-requires-clause-there g c =
    let e = c.in_ok-events.ensures.events in
    let n = c.args.cells.servers in
    let m = c.args.cells.clients in
    let all = g.B.BookId.actors in
    let given = g.B.BookId.nodes in
    let cells = c.args.cells.cells.items in
    let size = size_is n m all c.requires.group in
    let at = stands_at_last c.frames_are_whole.ensures.again n m given all e.0 cells e.1 c.requires.group size in
    let there = clients_are_there n m given all e.0 cells e.1 c.requires.group at in
    subst (HasClients m) (sym (c.deref.ensures.value ∙ c.in_ok-events.ensures.actors)) there

pub replay-requires-clause-runs : goal.replay-requires-clause-runs
replay-requires-clause-runs g c =
    let e = c.in_ok-events.ensures.events in
    let n = c.args.cells.servers in
    let m = c.args.cells.clients in
    let all = g.B.BookId.actors in
    let given = g.B.BookId.nodes in
    let cells = c.args.cells.cells.items in
    let size = size_is n m all c.requires.group in
    let at = stands_at_last c.frames_are_whole.ensures.again n m given all e.0 cells e.1 c.requires.group size in
    let nodes = c.deref-2.result.now in
    let made = subst (λ l. AreNodesOf m l c.in_ok-nodes.nodes.items) (c.deref.ensures.value ∙ c.in_ok-events.ensures.actors) c.in_ok-nodes.ensures in
    let are = subst (λ l. AreNodesOf m (map named_in cells) l) (sym c.deref-2.ensures.value) made in
    (at.world, subst (λ l. GroupLeads n nodes l at.world) (sym e.2) (group_leads n m given all e.0 cells e.1 c.requires.group at nodes are))

pub returns-clause-closes : goal.returns-clause-closes
returns-clause-closes g c =
    let e = c.in_ok-events.ensures.events in
    let n = c.args.cells.servers in
    let m = c.args.cells.clients in
    let all = g.B.BookId.actors in
    let given = g.B.BookId.nodes in
    let cells = c.args.cells.cells.items in
    let size = size_is n m all c.requires.group in
    let at = stands_at_last c.frames_are_whole.ensures.again n m given all e.0 cells e.1 c.requires.group size in
    let nodes = c.deref-2.result.now in
    let made = subst (λ l. AreNodesOf m l c.in_ok-nodes.nodes.items) (c.deref.ensures.value ∙ c.in_ok-events.ensures.actors) c.in_ok-nodes.ensures in
    let are = subst (λ l. AreNodesOf m (map named_in cells) l) (sym c.deref-2.ensures.value) made in
    let r = c.replay.ensures in
    ok_together _ _ _ _ _ (λ w. ClosesTo all cells w) c.replay.result r.trace r.size r.nodes r.clients r.last (λ w trace size nodes_is places last.
    closes_to n m given all e.0 cells e.1 c.requires.group at nodes are w (trace ∙ e.2) size nodes_is places (subst (λ l. RunsToLast n nodes l w) e.2 last))

pub returns-clause-nodes : goal.returns-clause-nodes
returns-clause-nodes g c =
    let e = c.in_ok-events.ensures.events in
    let n = c.args.cells.servers in
    let m = c.args.cells.clients in
    let all = g.B.BookId.actors in
    let given = g.B.BookId.nodes in
    let cells = c.args.cells.cells.items in
    let size = size_is n m all c.requires.group in
    let at = stands_at_last c.frames_are_whole.ensures.again n m given all e.0 cells e.1 c.requires.group size in
    let nodes = c.deref-2.result.now in
    let made = subst (λ l. AreNodesOf m l c.in_ok-nodes.nodes.items) (c.deref.ensures.value ∙ c.in_ok-events.ensures.actors) c.in_ok-nodes.ensures in
    let are = subst (λ l. AreNodesOf m (map named_in cells) l) (sym c.deref-2.ensures.value) made in
    ok_and _ (λ w. nodes_of w ≡ renumbered 1 (take m given)) c.replay.result c.replay.ensures.nodes (λ w nodes_is.
    nodes_is ∙ first_of_given n m given all e.0 cells e.1 c.requires.group at nodes are)

pub returns-clause-shown : goal.returns-clause-shown
returns-clause-shown g c =
    let e = c.in_ok-events.ensures.events in
    let n = c.args.cells.servers in
    let m = c.args.cells.clients in
    let all = g.B.BookId.actors in
    let given = g.B.BookId.nodes in
    let cells = c.args.cells.cells.items in
    let size = size_is n m all c.requires.group in
    let at = stands_at_last c.frames_are_whole.ensures.again n m given all e.0 cells e.1 c.requires.group size in
    let nodes = c.deref-2.result.now in
    let made = subst (λ l. AreNodesOf m l c.in_ok-nodes.nodes.items) (c.deref.ensures.value ∙ c.in_ok-events.ensures.actors) c.in_ok-nodes.ensures in
    let are = subst (λ l. AreNodesOf m (map named_in cells) l) (sym c.deref-2.ensures.value) made in
    let r = c.replay.ensures in
    ok_both _ _ (λ w. ShowsAtLast cells w) c.replay.result r.last r.spec (λ w last spec.
    shows_at_last n m given all e.0 cells e.1 c.requires.group at nodes are w (subst (λ l. RunsToLast n nodes l w) e.2 last) spec)
