use Rattle.std.proofs.Common.{◌≡◌, map, sym, subst, rules}
use Rattle.group_safety.specs.Limits.{NodesFit}
use Rattle.world.specs.GroupView.{GroupView, nodes_of, ClientsKnowNumbers}
use Rattle.world.specs.GroupShown.{OfTheLast, started_in}
use Rattle.world.proofs.GroupShown.{clients_shown}
use Rattle.world.proofs.group.world.World.clients.Goals as goal

pub returns-clause-places : goal.returns-clause-places
returns-clause-places c = subst ClientsKnowNumbers c.self.view_is c.self.invariant.clients

pub returns-clause-nodes : goal.returns-clause-nodes
returns-clause-nodes c = subst (λ (v : GroupView). NodesFit (nodes_of v)) c.self.view_is c.self.invariant.nodes

pub returns-clause-shown : goal.returns-clause-shown
returns-clause-shown c =
    let same : c.deref.result.now ≡ c.args.self.now.clients = search rules in
    subst (λ l. OfTheLast c.args.self.now (λ now. now.started ≡ map started_in l)) (sym same)
    (subst (λ (v : GroupView). OfTheLast v (λ now. now.started ≡ map started_in v.clients)) c.self.view_is (clients_shown _ c.self.invariant))
