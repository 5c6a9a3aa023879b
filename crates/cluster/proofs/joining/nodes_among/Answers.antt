use Rattle.std.proofs.Common.{◌≡◌, suc, arith, subst}
use Rattle.cluster.specs.Inner.Joined.{HasClient}
use Rattle.cluster.proofs.Nodes.{nodes_more}
use Rattle.cluster.proofs.joining.nodes_among.Goals as goal

pub node_among-requires : goal.node_among-requires
node_among-requires c =
    let place = c.loop-place.place in
    let number : suc place ≡ c.in-Some.client = omega (arith, c.in-Some.ensures.some.0) in
    subst (HasClient c.args.actors.now) number (c.requires.there place c.loop-place-test.true)

pub loop-place-preserved : goal.loop-place-preserved
loop-place-preserved c =
    let at = c.loop-place in
    let number : suc at.place ≡ c.in-Some.client = omega (arith, c.in-Some.ensures.some.0) in
    nodes_more c.args.actors.now at.place c.in-Some.client at.nodes.items _ c.node_among.result
    number c.in_ok-push.ensures.items c.node_among.ensures at.invariant
