-- What came for workers is fetched between the events of a group that is drawn.
use Rattle.std.proofs.Common.{◌≡◌, [], sym, ap, subst}
use Rattle.server.specs.declared.server.Outbox.{Outbox}
use Rattle.world.specs.GroupView.{GroupView}
use Rattle.world.specs.GroupSteps.{SameView}
use Rattle.sim_draw.specs.Inner.Actors.{fetched}

-- a refusal that changed nothing, and then what came for workers is fetched
pub fetched_same : (old now new : GroupView) → SameView old now → new ≡ fetched now → SameView (fetched old) new
fetched_same old now new same is = subst (SameView (fetched old)) (sym is) record {
  servers = same.servers;
  clients = same.clients;
  outbox = ap (λ (outbox : Outbox). record outbox { work = [] }) same.outbox;
  trace = same.trace;
  chain = same.chain;
}
