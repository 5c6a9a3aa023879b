use Rattle.std.proofs.Common.{ap, subst}
use Rattle.server_node.specs.Answers.{Settles}
use Rattle.server_node.specs.Nodes.{NodeView}
use Rattle.server_node.proofs.node.ServerNode.tell_settled.Goals as goal

pub returns : goal.returns
returns c =
    let i = c.self.inside in
    let got = c.in_ok-left.ensures in
    let left = c.in_ok-left.left.items in
    record {
      server = ap (λ (v : NodeView). v.server) c.self.view_is;
      workers = ap (λ (v : NodeView). v.workers) c.self.view_is;
      timers = ap (λ (v : NodeView). v.timers) c.self.view_is;
      settled = got.0;
      left = left;
      settles = subst (λ (v : NodeView). Settles v.server v.asked got.0 left) c.self.view_is (subst (λ l. Settles i.server l got.0 left) c.as_slice.ensures.value got.1);
      asked = c.in_ok-self-inside.ensures;
      put = got.2;
    }
